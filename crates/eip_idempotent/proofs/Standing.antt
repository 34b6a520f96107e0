-- What a call does to a table of keys that stands for the calls so far.
use Rattle.std.proofs.Common.{◌≡◌, ℕ, Bool, true, false, cond, ◌&&◌, ◌||◌, ◌==◌, List, [], ◌∷◌, ◌++◌, Option, Some, None, is_some, is_none, option_map, unwrap_or, bytes_eq, refl, sym, ap, subst, ◌∙◌, eqb-true, eq-eqb, true≢false}
use Rattle.std.specs.List.{list_any}
use Rattle.std.proofs.lemmas.Bool.{and_from, and_parts, and_left, and_right, or_left, false_from_ne_true}
use Rattle.std.proofs.lemmas.Option.{none-some}
use Rattle.std.proofs.lemmas.Slice.Eq.{bytes_eq-Decides}
use Rattle.eip_exchange.specs.declared.end.Ending.{Ending}
use Rattle.eip_idempotent.proofs.Least.{least_alike, number_least, least_either, least_twice, least_where, other_number}
use Rattle.eip_idempotent.specs.Keys.{Key, same_key, Call, Claimed, Settled, end_of, ClaimView, claim, claims_of, is_held, is_on, holds, IsLeast, HoldersView, nobody, held_by, least, least_holder, settled, settled_claim, settled_claims, Keys, Claims, Table, row_at, holders_at, PutsKey, value_at, claims_at, PutsClaims, is_number, HaveRows, Stands}

abbrev pub made : Keys → Claims → Table
made keys claims = record { keys = keys; claims = claims }

-- ---- keys

pub same : (a b : Key) → same_key a b ≡ true → a ≡ b
same a b e =
    let p = and_parts (bytes_eq a.0 b.0) (bytes_eq a.1 b.1) e in
    ap (λ (r : List ℕ). (r, a.1)) ((bytes_eq-Decides a.0 b.0).0 p.0) ∙ ap (λ (k : List ℕ). (b.0, k)) ((bytes_eq-Decides a.1 b.1).0 p.1)

same_itself : (a : Key) → same_key a a ≡ true
same_itself a = and_from (bytes_eq a.0 a.0) (bytes_eq a.1 a.1) ((bytes_eq-Decides a.0 a.0).1 refl) ((bytes_eq-Decides a.1 a.1).1 refl)

-- ---- truth values

or_false : (b : Bool) → (b || false) ≡ b
or_false true = refl
or_false false = refl

and_true : (b : Bool) → (b && true) ≡ b
and_true true = refl
and_true false = refl

or_assoc : (a b c : Bool) → (a || (b || c)) ≡ ((a || b) || c)
or_assoc true b c = refl
or_assoc false b c = refl

any_more : (f : ClaimView → Bool) (cs : List ClaimView) (c : ClaimView) → list_any f (cs ++ c ∷ []) ≡ (list_any f cs || f c)
any_more f [] c = or_false (f c)
any_more f (d ∷ cs) c = ap (λ (b : Bool). f d || b) (any_more f cs c) ∙ or_assoc (f d) (list_any f cs) (f c)

any_where : (t : Bool) (f : ClaimView → Bool) (cs : List ClaimView) (c : ClaimView) → list_any f (cond t (cs ++ c ∷ []) cs) ≡ (list_any f cs || (t && f c))
any_where true f cs c = any_more f cs c
any_where false f cs c = sym (or_false (list_any f cs))

-- ---- who is the least holder

parted : (b : Bool) (o : Option Ending) → ((b && is_none o) || (b && is_some o)) ≡ b
parted true None = refl
parted true (Some e) = refl
parted false o = refl

pub holder_told : (calls : List Call) (table : Table) (k : Key) → Stands calls table → IsLeast (holds calls k) (least_holder (holders_at table.keys k))
holder_told calls table k stands =
    let h = holders_at table.keys k in
    least_alike (λ x. (holds calls k x && is_none (end_of calls x)) || (holds calls k x && is_some (end_of calls x))) (holds calls k)
    (λ x. parted (holds calls k x) (end_of calls x))
    (least h.unended h.lasting)
    (least_either (λ x. holds calls k x && is_none (end_of calls x)) (λ x. holds calls k x && is_some (end_of calls x)) h.unended h.lasting
    (number_least (λ x. holds calls k x && is_none (end_of calls x)) h.unended (stands.unended k))
    (stands.lasting k))

-- ---- rows

rows_kept : (keys after : Keys) → ((k : Key) → is_some (row_at keys k) ≡ true → is_some (row_at after k) ≡ true) → (cs : List ClaimView) → HaveRows keys cs → HaveRows after cs
rows_kept keys after h [] rows = rows
rows_kept keys after h (c ∷ cs) rows = (h c.key rows.0, rows_kept keys after h cs rows.1)

rows_and : (keys : Keys) (cs : List ClaimView) (c : ClaimView) → HaveRows keys cs → is_some (row_at keys c.key) ≡ true → HaveRows keys (cs ++ c ∷ [])
rows_and keys [] c rows row = (row, rows)
rows_and keys (d ∷ cs) c rows row = (rows.0, rows_and keys cs c rows.1 row)

rows_where : (t : Bool) (keys : Keys) (cs : List ClaimView) (c : ClaimView) → HaveRows keys cs → is_some (row_at keys c.key) ≡ true → HaveRows keys (cond t (cs ++ c ∷ []) cs)
rows_where true keys cs c rows row = rows_and keys cs c rows row
rows_where false keys cs c rows row = rows

some_where : (t : Bool) (h : HoldersView) (o : Option HoldersView) → is_some o ≡ true → is_some (cond t (Some h) o) ≡ true
some_where true h o e = refl
some_where false h o e = e

some_mapped : (f : HoldersView → HoldersView) (o : Option HoldersView) → is_some o ≡ true → is_some (option_map f o) ≡ true
some_mapped f None e = e
some_mapped f (Some h) e = refl

-- ---- a key is claimed

added_by : (t : Bool) (own : List ClaimView) (o : Option (List ClaimView)) (cs : List ClaimView) (c : ClaimView) → (t ≡ true → own ≡ cs) → unwrap_or o [] ≡ cs
    → unwrap_or (cond t (Some (own ++ c ∷ [])) o) [] ≡ cond t (cs ++ c ∷ []) cs
added_by true own o cs c h e = ap (λ (xs : List ClaimView). xs ++ c ∷ []) (h refl)
added_by false own o cs c h e = e

own_number : (eager : Bool) (n x : ℕ) → n ≡ x → (eager && true) ≡ is_number x (cond eager (Some n) None)
own_number true n x e = sym (eq-eqb x n (sym e))
own_number false n x e = refl

not_own : (b : Bool) (n x : ℕ) → (n == x) ≡ false → is_number x (cond b (Some n) None) ≡ false
not_own true n x ne = other_number n x ne
not_own false n x ne = refl

claimed_by : (s t held : Bool) (ended : Option Ending) (c : ClaimView) (n x : ℕ) (o : Option HoldersView) → (n == x) ≡ t → (s ≡ true → held ≡ false) → (t ≡ true → ended ≡ None)
    → (held && is_none ended) ≡ is_number x (unwrap_or o nobody).unended
    → ((held || (t && (s && is_held ended c))) && is_none ended) ≡ is_number x (unwrap_or (cond s (Some (held_by n c.eager)) o) nobody).unended
claimed_by true true held ended c n x o t fresh unended old =
    ap (λ (b : Bool). (b || is_held ended c) && is_none ended) (fresh refl)
    ∙ ap (λ (e : Option Ending). is_held e c && is_none e) (unended refl)
    ∙ own_number c.eager n x (eqb-true n x t)
claimed_by true false held ended c n x o t fresh unended old = ap (λ (b : Bool). (b || false) && is_none ended) (fresh refl) ∙ sym (not_own c.eager n x t)
claimed_by false true held ended c n x o t fresh unended old = ap (λ (b : Bool). b && is_none ended) (or_false held) ∙ old
claimed_by false false held ended c n x o t fresh unended old = ap (λ (b : Bool). b && is_none ended) (or_false held) ∙ old

-- who has ended holds what it held
still_by : (t held b : Bool) (ended : Option Ending) → (t ≡ true → ended ≡ None) → ((held || (t && b)) && is_some ended) ≡ (held && is_some ended)
still_by true held b ended h = and_right (held || b) (is_some ended) (ap is_some (h refl)) ∙ sym (and_right held (is_some ended) (ap is_some (h refl)))
still_by false held b ended h = ap (λ (a : Bool). a && is_some ended) (or_false held)

lasting_by : (s eager : Bool) (n : ℕ) (o : Option HoldersView) (p : ℕ → Bool) → (s ≡ true → (x : ℕ) → p x ≡ false) → IsLeast p (unwrap_or o nobody).lasting
    → IsLeast p (unwrap_or (cond s (Some (held_by n eager)) o) nobody).lasting
lasting_by true eager n o p h l = h refl
lasting_by false eager n o p h l = l

module _ (calls : List Call) (keys after : Keys) (claims more : Claims) (key : Key) (number : ℕ) (eager remove : Bool) (stands : Stands calls (made keys claims)) (fresh : (x : ℕ) → holds calls key x ≡ false)
    (unended : end_of calls number ≡ None) (puts : PutsKey keys after key (held_by number eager)) (adds : PutsClaims claims more number (Some (claims_at claims number ++ claim key eager remove ∷ []))) where
  open_at : (x : ℕ) → (number == x) ≡ true → end_of calls x ≡ None
  open_at x t = subst (λ (y : ℕ). end_of calls y ≡ None) (eqb-true number x t) unended

  fresh_at : (k : Key) (x : ℕ) → same_key key k ≡ true → holds calls k x ≡ false
  fresh_at k x s = subst (λ (j : Key). holds calls j x ≡ false) (same key k s) (fresh x)

  claims_claimed : (x : ℕ) → end_of calls x ≡ None → claims_at more x ≡ claims_of (Claimed key number eager remove ∷ calls) x
  claims_claimed x ended =
      ap (λ (o : Option (List ClaimView)). unwrap_or o []) (adds x)
      ∙ added_by (number == x) (claims_at claims number) (value_at claims x) (claims_of calls x) (claim key eager remove)
      (λ t. ap (claims_at claims) (eqb-true number x t) ∙ stands.claims x ended)
      (stands.claims x ended)

  row_kept : (k : Key) → is_some (row_at keys k) ≡ true → is_some (row_at after k) ≡ true
  row_kept k row = ap is_some (puts k) ∙ some_where (same_key key k) (held_by number eager) (row_at keys k) row

  own_row : is_some (row_at after key) ≡ true
  own_row = ap is_some (puts key) ∙ ap (λ (b : Bool). is_some (cond b (Some (held_by number eager)) (row_at keys key))) (same_itself key)

  rows_claimed : (x : ℕ) → end_of calls x ≡ None → HaveRows after (claims_of (Claimed key number eager remove ∷ calls) x)
  rows_claimed x ended =
      rows_where (number == x) after (claims_of calls x) (claim key eager remove) (rows_kept keys after row_kept (claims_of calls x) (stands.rows x ended)) own_row

  holds_claimed : (k : Key) (x : ℕ) → holds (Claimed key number eager remove ∷ calls) k x ≡ (holds calls k x || ((number == x) && (same_key key k && is_held (end_of calls x) (claim key eager remove))))
  holds_claimed k x = any_where (number == x) (λ c. is_on k c && is_held (end_of calls x) c) (claims_of calls x) (claim key eager remove)

  unended_claimed : (k : Key) (x : ℕ) → (holds (Claimed key number eager remove ∷ calls) k x && is_none (end_of calls x)) ≡ is_number x (holders_at after k).unended
  unended_claimed k x =
      ap (λ (b : Bool). b && is_none (end_of calls x)) (holds_claimed k x)
      ∙ claimed_by (same_key key k) (number == x) (holds calls k x) (end_of calls x) (claim key eager remove) number x (row_at keys k) refl (fresh_at k x) (open_at x) (stands.unended k x)
      ∙ ap (λ (o : Option HoldersView). is_number x (unwrap_or o nobody).unended) (sym (puts k))

  lasting_claimed : (k : Key) → IsLeast (λ x. holds (Claimed key number eager remove ∷ calls) k x && is_some (end_of calls x)) (holders_at after k).lasting
  lasting_claimed k =
      least_alike (λ x. holds calls k x && is_some (end_of calls x)) (λ x. holds (Claimed key number eager remove ∷ calls) k x && is_some (end_of calls x))
      (λ x. sym (
      ap (λ (b : Bool). b && is_some (end_of calls x)) (holds_claimed k x)
      ∙ still_by (number == x) (holds calls k x) (same_key key k && is_held (end_of calls x) (claim key eager remove)) (end_of calls x) (open_at x)))
      (holders_at after k).lasting
      (subst (λ (o : Option HoldersView). IsLeast (λ x. holds calls k x && is_some (end_of calls x)) (unwrap_or o nobody).lasting) (sym (puts k))
      (lasting_by (same_key key k) eager number (row_at keys k) (λ x. holds calls k x && is_some (end_of calls x))
      (λ s x. and_left (holds calls k x) (is_some (end_of calls x)) (fresh_at k x s))
      (stands.lasting k)))

  pub stands_claimed : Stands (Claimed key number eager remove ∷ calls) (made after more)
  stands_claimed = record {
    claims = claims_claimed;
    rows = rows_claimed;
    unended = unended_claimed;
    lasting = lasting_claimed;
  }

-- ---- an exchange ends

holders_by : (o : Option HoldersView) (f : HoldersView → HoldersView) → (o ≡ None → f nobody ≡ nobody) → unwrap_or (option_map f o) nobody ≡ f (unwrap_or o nobody)
holders_by None f h = sym (h refl)
holders_by (Some held) f h = refl

-- its claims on a key without a row are none
rowless : (keys : Keys) (number : ℕ) (end : Ending) (k : Key) (cs : List ClaimView) (h : HoldersView) → row_at keys k ≡ None → HaveRows keys cs → settled_claims number end k cs h ≡ h
rowless keys number end k [] h none rows = refl
rowless keys number end k (c ∷ cs) h none rows =
    ap (settled_claims number end k cs)
    (ap (λ (b : Bool). cond b (settled number c.eager (is_held (Some end) c) h) h)
    (false_from_ne_true (same_key c.key k)
    (λ t. true≢false (sym (subst (λ (j : Key). is_some (row_at keys j) ≡ true) (same c.key k t) rows.0) ∙ ap is_some none))))
    ∙ rowless keys number end k cs h none rows.1

unended_step : (s eager lasts all : Bool) (number : ℕ) (h : HoldersView) → cond all None (cond s (settled number eager lasts h) h).unended ≡ cond ((s && eager) || all) None h.unended
unended_step true true lasts true number h = refl
unended_step true true lasts false number h = refl
unended_step true false lasts all number h = refl
unended_step false eager lasts all number h = refl

unended_settled : (number : ℕ) (end : Ending) (k : Key) (cs : List ClaimView) (h : HoldersView) → (settled_claims number end k cs h).unended ≡ cond (list_any (λ c. is_on k c && c.eager) cs) None h.unended
unended_settled number end k [] h = refl
unended_settled number end k (c ∷ cs) h =
    unended_settled number end k cs (settled_claim number end k c h)
    ∙ unended_step (is_on k c) c.eager (is_held (Some end) c) (list_any (λ d. is_on k d && d.eager) cs) number h

lasting_step : (s eager lasts all : Bool) (number : ℕ) (h : HoldersView)
    → cond all (least (Some number) (cond s (settled number eager lasts h) h).lasting) (cond s (settled number eager lasts h) h).lasting ≡ cond ((s && lasts) || all) (least (Some number) h.lasting) h.lasting
lasting_step true eager true true number h = least_twice number h.lasting
lasting_step true eager true false number h = refl
lasting_step true eager false all number h = refl
lasting_step false eager lasts all number h = refl

lasting_settled : (number : ℕ) (end : Ending) (k : Key) (cs : List ClaimView) (h : HoldersView)
    → (settled_claims number end k cs h).lasting ≡ cond (list_any (λ c. is_on k c && is_held (Some end) c) cs) (least (Some number) h.lasting) h.lasting
lasting_settled number end k [] h = refl
lasting_settled number end k (c ∷ cs) h =
    lasting_settled number end k cs (settled_claim number end k c h)
    ∙ lasting_step (is_on k c) c.eager (is_held (Some end) c) (list_any (λ d. is_on k d && is_held (Some end) d) cs) number h

not_ended : (t : Bool) (end : Ending) (o : Option Ending) → cond t (Some end) o ≡ None → (t ≡ false) × (o ≡ None)
not_ended true end o e = absurd (none-some end (sym e))
not_ended false end o e = (refl, e)

gone : (all : Bool) (u : Option ℕ) (n x : ℕ) → n ≡ x → all ≡ is_number n u → is_number x (cond all None u) ≡ false
gone true u n x same known = refl
gone false u n x same known = subst (λ (y : ℕ). is_number y u ≡ false) same (sym known)

-- who holds it and hasn't ended is one
one_holder : (u : Option ℕ) (n x : ℕ) → (n == x) ≡ false → true ≡ is_number n u → is_number x u ≡ false
one_holder None n x ne known = refl
one_holder (Some y) n x ne known = subst (λ (z : ℕ). (x == z) ≡ false) (eqb-true n y (sym known)) (other_number n x ne)

others_stay : (all : Bool) (u : Option ℕ) (n x : ℕ) → (n == x) ≡ false → all ≡ is_number n u → is_number x u ≡ is_number x (cond all None u)
others_stay true u n x ne known = one_holder u n x ne known
others_stay false u n x ne known = refl

settled_by : (t : Bool) (f : Option Ending → Bool) (end : Ending) (ended : Option Ending) (n x : ℕ) (all : Bool) (u : Option ℕ) → (n == x) ≡ t → all ≡ is_number n u → (f ended && is_none ended) ≡ is_number x u
    → (f (cond t (Some end) ended) && is_none (cond t (Some end) ended)) ≡ is_number x (cond all None u)
settled_by true f end ended n x all u t known old = and_right (f (Some end)) false refl ∙ sym (gone all u n x (eqb-true n x t) known)
settled_by false f end ended n x all u t known old = old ∙ others_stay all u n x t known

own_lasts : (b : Bool) (f : Option Ending → Bool) (ended : Option Ending) (n x : ℕ) → n ≡ x → ended ≡ None → b ≡ (is_number x (cond b (Some n) None) || (f ended && is_some ended))
own_lasts true f ended n x same none = sym (or_left (x == n) (f ended && is_some ended) (eq-eqb x n (sym same)))
own_lasts false f ended n x same none = sym (and_right (f ended) (is_some ended) (ap is_some none))

lasts_by : (t : Bool) (f : Option Ending → Bool) (end : Ending) (ended : Option Ending) (n x : ℕ) (b : Bool) → (n == x) ≡ t → (t ≡ true → f (Some end) ≡ b) → (t ≡ true → ended ≡ None)
    → (is_number x (cond b (Some n) None) || (f ended && is_some ended)) ≡ (f (cond t (Some end) ended) && is_some (cond t (Some end) ended))
lasts_by true f end ended n x b t own none = sym (own_lasts b f ended n x (eqb-true n x t) (none refl)) ∙ sym (and_true (f (Some end)) ∙ own refl)
lasts_by false f end ended n x b t own none = ap (λ (a : Bool). a || (f ended && is_some ended)) (not_own b n x t)

module _ (calls : List Call) (keys after : Keys) (claims less : Claims) (number : ℕ) (end : Ending) (stands : Stands calls (made keys claims)) (unended : end_of calls number ≡ None)
    (changes : (k : Key) → row_at after k ≡ option_map (settled_claims number end k (claims_at claims number)) (row_at keys k)) (puts : PutsClaims claims less number None) where
  still_open : (x : ℕ) → (number == x) ≡ true → end_of calls x ≡ None
  still_open x t = subst (λ (y : ℕ). end_of calls y ≡ None) (eqb-true number x t) unended

  own_claims : claims_at claims number ≡ claims_of calls number
  own_claims = stands.claims number unended

  claims_settled : (x : ℕ) → end_of (Settled number end ∷ calls) x ≡ None → claims_at less x ≡ claims_of calls x
  claims_settled x ended =
      let h = not_ended (number == x) end (end_of calls x) ended in
      ap (λ (o : Option (List ClaimView)). unwrap_or o []) (puts x ∙ ap (λ (b : Bool). cond b None (value_at claims x)) h.0) ∙ stands.claims x h.1

  rows_settled : (x : ℕ) → end_of (Settled number end ∷ calls) x ≡ None → HaveRows after (claims_of calls x)
  rows_settled x ended =
      rows_kept keys after (λ k row. ap is_some (changes k) ∙ some_mapped (settled_claims number end k (claims_at claims number)) (row_at keys k) row) (claims_of calls x)
      (stands.rows x (not_ended (number == x) end (end_of calls x) ended).1)

  holders_settled : (k : Key) → holders_at after k ≡ settled_claims number end k (claims_at claims number) (holders_at keys k)
  holders_settled k =
      ap (λ (o : Option HoldersView). unwrap_or o nobody) (changes k)
      ∙ holders_by (row_at keys k) (settled_claims number end k (claims_at claims number))
      (λ none. rowless keys number end k (claims_at claims number) nobody none (subst (HaveRows keys) (sym own_claims) (stands.rows number unended)))

  -- whether it holds the key when it ends
  holds_before : (k : Key) → list_any (λ c. is_on k c && c.eager) (claims_at claims number) ≡ is_number number (holders_at keys k).unended
  holds_before k =
      ap (list_any (λ c. is_on k c && c.eager)) own_claims
      ∙ ap (λ (o : Option Ending). list_any (λ c. is_on k c && is_held o c) (claims_of calls number)) (sym unended)
      ∙ sym (and_true (holds calls k number))
      ∙ ap (λ (o : Option Ending). holds calls k number && is_none o) (sym unended)
      ∙ stands.unended k number

  unended_after : (k : Key) (x : ℕ) → (holds (Settled number end ∷ calls) k x && is_none (end_of (Settled number end ∷ calls) x)) ≡ is_number x (holders_at after k).unended
  unended_after k x =
      settled_by (number == x) (λ o. list_any (λ c. is_on k c && is_held o c) (claims_of calls x)) end (end_of calls x) number x (list_any (λ c. is_on k c && c.eager) (claims_at claims number)) (holders_at keys k).unended
      refl (holds_before k) (stands.unended k x)
      ∙ ap (is_number x) (sym (ap (λ (h : HoldersView). h.unended) (holders_settled k) ∙ unended_settled number end k (claims_at claims number) (holders_at keys k)))

  abbrev lasts : Key → Bool
  lasts k = list_any (λ c. is_on k c && is_held (Some end) c) (claims_at claims number)

  own_lasting : (k : Key) (x : ℕ) → (number == x) ≡ true → list_any (λ c. is_on k c && is_held (Some end) c) (claims_of calls x) ≡ lasts k
  own_lasting k x t = ap (λ (y : ℕ). list_any (λ c. is_on k c && is_held (Some end) c) (claims_of calls y)) (sym (eqb-true number x t)) ∙ ap (list_any (λ c. is_on k c && is_held (Some end) c)) (sym own_claims)

  lasting_after : (k : Key) → IsLeast (λ x. holds (Settled number end ∷ calls) k x && is_some (end_of (Settled number end ∷ calls) x)) (holders_at after k).lasting
  lasting_after k =
      let o = (holders_at keys k).lasting in
      subst (IsLeast (λ x. holds (Settled number end ∷ calls) k x && is_some (end_of (Settled number end ∷ calls) x)))
      (least_where (lasts k) number o
      ∙ sym (ap (λ (h : HoldersView). h.lasting) (holders_settled k) ∙ lasting_settled number end k (claims_at claims number) (holders_at keys k)))
      (least_alike (λ x. is_number x (cond (lasts k) (Some number) None) || (holds calls k x && is_some (end_of calls x))) (λ x. holds (Settled number end ∷ calls) k x && is_some (end_of (Settled number end ∷ calls) x))
      (λ x. lasts_by (number == x) (λ e. list_any (λ c. is_on k c && is_held e c) (claims_of calls x)) end (end_of calls x) number x (lasts k) refl (own_lasting k x) (still_open x))
      (least (cond (lasts k) (Some number) None) o)
      (least_either (λ x. is_number x (cond (lasts k) (Some number) None)) (λ x. holds calls k x && is_some (end_of calls x)) (cond (lasts k) (Some number) None) o
      (number_least (λ x. is_number x (cond (lasts k) (Some number) None)) (cond (lasts k) (Some number) None) (λ x. refl))
      (stands.lasting k)))

  pub stands_settled : Stands (Settled number end ∷ calls) (made after less)
  stands_settled = record {
    claims = claims_settled;
    rows = rows_settled;
    unended = unended_after;
    lasting = lasting_after;
  }

-- ---- nobody has claimed a key

pub stands_new : (table : Table) → table.keys ≡ [] → table.claims ≡ [] → Stands [] table
stands_new table keys claims = record {
  claims = λ x ended. ap (λ (cs : Claims). claims_at cs x) claims;
  rows = λ x ended. tt;
  unended = λ k x. ap (λ (ks : Keys). is_number x (holders_at ks k).unended) (sym keys);
  lasting = λ k. subst (λ (ks : Keys). IsLeast (λ x. holds [] k x && is_some (end_of [] x)) (holders_at ks k).lasting) (sym keys) (λ x. refl);
}
