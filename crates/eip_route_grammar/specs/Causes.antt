-- How a cause is printed.
use Rattle.std.specs.Prelude.{◌≡◌, ℕ, List, [], ◌∷◌, ◌++◌, codes, decimal, Option, Some, None, refl}
use Rattle.eip_route_grammar.specs.declared.fault.Cause.{Cause}
use Rattle.eip_route_grammar.specs.declared.fault.Cause.TheVariants as cause

-- the first of two
abbrev pub or_else : {A : Type 0} → Option A → Option A → Option A
or_else None b = b
or_else (Some a) b = Some a

abbrev pub name_of : Cause → List ℕ
name_of cause.NoFile = codes "NoFile"
name_of cause.TooLong = codes "TooLong"
name_of cause.NotJson = codes "NotJson"
name_of cause.WrongKind = codes "WrongKind"
name_of cause.TooManyRoutes = codes "TooManyRoutes"
name_of cause.NotOneKey = codes "NotOneKey"
name_of (cause.UnknownKey key) = codes "UnknownKey"
name_of (cause.UnknownStep key) = codes "UnknownStep"
name_of (cause.DoubleKey key) = codes "DoubleKey"
name_of (cause.MissingKey key) = codes "MissingKey"
name_of cause.StepsTwice = codes "StepsTwice"
name_of cause.BothHandledAndContinued = codes "BothHandledAndContinued"
name_of cause.NoCompletion = codes "NoCompletion"
name_of cause.BadName = codes "BadName"
name_of cause.BadValue = codes "BadValue"
name_of cause.UnknownScheme = codes "UnknownScheme"
name_of (cause.BadUri at) = codes "BadUri"
name_of (cause.UnknownOption name) = codes "UnknownOption"
name_of (cause.BadOption name) = codes "BadOption"
name_of (cause.DoubleOption name) = codes "DoubleOption"
name_of (cause.BadSimple at) = codes "BadSimple"
name_of (cause.UnknownFunction at) = codes "UnknownFunction"
name_of (cause.BadPattern at) = codes "BadPattern"
name_of (cause.PatternTooLarge at) = codes "PatternTooLarge"
name_of cause.NotConsumer = codes "NotConsumer"
name_of cause.NotProducer = codes "NotProducer"
name_of (cause.NotRegistered name) = codes "NotRegistered"
name_of cause.TooNested = codes "TooNested"
name_of cause.DoubleErrorHandler = codes "DoubleErrorHandler"
name_of cause.DoubleRouteId = codes "DoubleRouteId"
name_of cause.SecondConsumer = codes "SecondConsumer"

-- the text among its arguments
abbrev pub word_of : Cause → Option (List ℕ)
word_of (cause.UnknownKey key) = Some key
word_of (cause.UnknownStep key) = Some key
word_of (cause.DoubleKey key) = Some key
word_of (cause.MissingKey key) = Some key
word_of (cause.UnknownOption name) = Some name
word_of (cause.BadOption name) = Some name
word_of (cause.DoubleOption name) = Some name
word_of (cause.NotRegistered name) = Some name
word_of _ = None

-- the offset among its arguments
abbrev pub byte_of : Cause → Option ℕ
byte_of (cause.BadUri at) = Some at
byte_of (cause.BadSimple at) = Some at
byte_of (cause.UnknownFunction at) = Some at
byte_of (cause.BadPattern at) = Some at
byte_of (cause.PatternTooLarge at) = Some at
byte_of _ = None

abbrev pub behind_space : List ℕ → List ℕ
behind_space argument = 32 ∷ argument

abbrev pub argument_text : Option (List ℕ) → Option ℕ → List ℕ
argument_text (Some word) at = behind_space word
argument_text None (Some at) = behind_space (decimal at)
argument_text None None = []

-- the name and, behind a space, the argument where there is one
unfoldable pub cause_text : Cause → List ℕ
cause_text c = name_of c ++ argument_text (word_of c) (byte_of c)

-- ---- worked rows

pub row-plain : cause_text cause.NotJson ≡ codes "NotJson"
unfolding cause_text
row-plain = refl

pub row-word : cause_text (cause.UnknownKey (codes "rout")) ≡ codes "UnknownKey rout"
unfolding cause_text
row-word = refl

pub row-byte : cause_text (cause.BadUri 10) ≡ codes "BadUri " ++ decimal 10
unfolding cause_text
row-byte = refl
