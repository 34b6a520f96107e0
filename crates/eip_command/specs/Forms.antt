-- How the words of a command go: its own word, its operands, and behind these its options.
use Rattle.std.specs.Prelude.{◌≡◌, ℕ, ◌-◌, Bool, true, false, not, ◌==◌, ◌&&◌, nat_lt, nat_le, List, [], ◌∷◌, map, length, slice_index, bytes_eq, codes, Option, Some, None, is_some, if◌then◌else◌, refl}
use Rattle.std.specs.Fmt.{digits}
use Rattle.eip_text.specs.Counts.{count_of}
use Rattle.eip_command.specs.declared.forms.Rule.{Rule}
use Rattle.eip_command.specs.declared.forms.Rule.TheVariants as rule
use Rattle.eip_command.specs.declared.forms.OptionRule.{OptionRule}
use Rattle.eip_command.specs.declared.forms.Form.{Form}

-- ---- a word

-- not empty, without `-` at its front and without `/` at its end
abbrev pub is_path : List ℕ → Bool
is_path bs = nat_lt 0 (length bs) && (not (slice_index bs 0 == 45) && not (slice_index bs (length bs - 1) == 47))

abbrev pub is_between : ℕ → ℕ → Option ℕ → Bool
is_between least most None = false
is_between least most (Some n) = nat_le least n && nat_le n most

-- the word is what the rule says
abbrev pub fits : Rule → List ℕ → Bool
fits rule.Path w = is_path w
fits (rule.Count least most) w = is_between least most (count_of w)

-- ---- options

-- the rules of the values by the options' words
abbrev pub Options : Type 0
Options = List (List ℕ × Rule)

abbrev pub rule_of : Options → List ℕ → Option Rule
rule_of [] w = None
rule_of (o ∷ os) w = if bytes_eq o.0 w then Some o.1 else rule_of os w

abbrev pub fits_rule : Option Rule → List ℕ → Bool
fits_rule None value = false
fits_rule (Some r) value = fits r value

-- the word is one of these options, and the value is what it has to be
abbrev pub is_option : Options → List ℕ → List ℕ → Bool
is_option os w value = fits_rule (rule_of os w) value

-- what stands behind an option's word, in words that come in pairs
abbrev pub value_of : List ℕ → List (List ℕ) → Option (List ℕ)
value_of w [] = None
value_of w (v ∷ []) = None
value_of w (v ∷ (value ∷ words)) = if bytes_eq v w then Some value else value_of w words

abbrev pub is_given : List ℕ → List (List ℕ) → Bool
is_given w words = is_some (value_of w words)

-- the words are pairs of an option and its value, and no option stands there twice
abbrev pub are_pairs : Options → List (List ℕ) → Bool
are_pairs os [] = true
are_pairs os (w ∷ []) = false
are_pairs os (w ∷ (value ∷ words)) = is_option os w value && (not (is_given w words) && are_pairs os words)

-- ---- a form

pub record CommandForm : Type 0 where
  pub word : List ℕ
  pub operands : List Rule
  pub options : Options

-- a word for each operand, each what its rule says, and pairs of options behind them
abbrev pub follow : List Rule → Options → List (List ℕ) → Bool
follow [] os words = are_pairs os words
follow (r ∷ rs) os [] = false
follow (r ∷ rs) os (w ∷ words) = fits r w && follow rs os words

-- the words behind the command's own go by the form
abbrev pub admits : CommandForm → List (List ℕ) → Bool
admits f words = follow f.operands f.options words

abbrev pub option_seen : OptionRule → List ℕ × Rule
option_seen o = (o.word.now, o.value)

abbrev pub form_seen : Form → CommandForm
form_seen f = record { word = f.word.now; operands = f.operands.now; options = map option_seen f.options.now }

-- ---- worked rows

-- `ROUTES [--turns N] [--journal FILE]`
abbrev pub run_form : CommandForm
run_form = record {
  word = codes "run";
  operands = rule.Path ∷ [];
  options = (codes "--turns", rule.Count 1 1000000) ∷ (codes "--journal", rule.Path) ∷ [];
}

pub row-operand : admits run_form (codes "r.json" ∷ []) ≡ true
row-operand = refl

pub row-any_order : admits run_form (codes "r.json" ∷ codes "--journal" ∷ codes "j" ∷ codes "--turns" ∷ codes "5" ∷ []) ≡ true
unfolding count_of digits
row-any_order = refl

pub row-twice : admits run_form (codes "r.json" ∷ codes "--turns" ∷ codes "5" ∷ codes "--turns" ∷ codes "5" ∷ []) ≡ false
unfolding count_of digits
row-twice = refl

pub row-too_small : admits run_form (codes "r.json" ∷ codes "--turns" ∷ codes "0" ∷ []) ≡ false
unfolding count_of digits
row-too_small = refl

pub row-zero_in_front : admits run_form (codes "r.json" ∷ codes "--turns" ∷ codes "05" ∷ []) ≡ false
unfolding count_of digits
row-zero_in_front = refl

pub row-no_value : admits run_form (codes "r.json" ∷ codes "--turns" ∷ []) ≡ false
row-no_value = refl

pub row-unknown : admits run_form (codes "r.json" ∷ codes "--limit" ∷ codes "5" ∷ []) ≡ false
row-unknown = refl

pub row-in_front : admits run_form (codes "--turns" ∷ codes "5" ∷ codes "r.json" ∷ []) ≡ false
row-in_front = refl
