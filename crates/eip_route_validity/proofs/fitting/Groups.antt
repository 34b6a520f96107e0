-- Of the keys of which an object has exactly one: one is there, and no other.
use Rattle.std.proofs.Common.{ℕ, ◌≡◌, ◌⊎◌, inl, inr, ⊎_elim, Bool, true, false, cond, ◌&&◌, ◌||◌, List, [], ◌∷◌, ◌++◌, Option, Some, None, is_some, refl, sym, ap, ◌∙◌, subst, bytes_eq, codes}
use Rattle.std.proofs.lemmas.Bool.{or_cases, or_left, or_right, or_from, or_parts, and_from, and_parts, cond_both, cases_Bool, true≢false}
use Rattle.std.proofs.lemmas.Option.{same_Some}
use Rattle.std.proofs.lemmas.Slice.Eq.{bytes_eq-Decides}
use Rattle.eip_text.specs.Json.{Json, Members, no_members, member}
use Rattle.eip_route_grammar.specs.Keys.{spelled, is_spelled}
use Rattle.eip_route_grammar.specs.Table.{rows, row_for, key_in}
use Rattle.eip_route_grammar.specs.Objects.{is_one, clash, clashes, missed, missing, keyed, keys_of, value_at}
use Rattle.eip_route_grammar.specs.declared.fault.Cause.TheVariants as cause
use Rattle.eip_route_grammar.specs.declared.keys.Key.{Key}
use Rattle.eip_route_grammar.specs.declared.table.Kind.{Kind}
use Rattle.eip_route_grammar.specs.declared.table.Row.{Row}
use Rattle.eip_route_grammar.specs.declared.table.Row.TheVariants as row
use Rattle.eip_route_validity.proofs.fitting.Faultless.{or_none}
use Rattle.eip_route_validity.proofs.fitting.Keyed.{HasRow, row_of_key, row_cases, found_key, with_row, rows_of, AreFresh, are_keyed, has_row, not_missed, here, later, row_there}

-- one of the group's keys stands among the members
abbrev pub has_one : List Row → Members → Bool
has_one [] ms = false
has_one (r ∷ rs) ms = (is_one r && is_some (value_at (key_in r) ms)) || has_one rs ms

abbrev has_group : List Row → Bool
has_group [] = false
has_group (r ∷ rs) = is_one r || has_group rs

-- ---- one is there

one_of_table : (k : List ℕ) (rs : List Row) (s : Row) (ms : Members) → row_for k rs ≡ Some s → is_one s ≡ true → is_some (value_at (key_in s) ms) ≡ true → has_one rs ms ≡ true
one_of_table k [] s ms p one there = absurd cc
one_of_table k (r ∷ rs) s ms p one there =
    row_cases (is_spelled (key_in r) k) r s (row_for k rs) p
    (λ b same. or_left (is_one r && is_some (value_at (key_in r) ms)) (has_one rs ms)
    (subst (λ (x : Row). (is_one x && is_some (value_at (key_in x) ms)) ≡ true) (sym same) (and_from (is_one s) (is_some (value_at (key_in s) ms)) one there)))
    (λ l. or_right (is_one r && is_some (value_at (key_in r) ms)) (has_one rs ms) (one_of_table k rs s ms l one there))

one_later : (rs : List Row) (k : List ℕ) (t : Json) (ms : Members) → has_one rs ms ≡ true → has_one rs (member k t ms) ≡ true
one_later [] k t ms e = e
one_later (r ∷ rs) k t ms e = ⊎_elim
    (λ a. let p = and_parts (is_one r) (is_some (value_at (key_in r) ms)) a in
    or_left _ _ (and_from (is_one r) (is_some (value_at (key_in r) (member k t ms))) p.0 (later (is_spelled (key_in r) k) t (value_at (key_in r) ms) p.1)))
    (λ b. or_right (is_one r && is_some (value_at (key_in r) (member k t ms))) (has_one rs (member k t ms)) (one_later rs k t ms b))
    (or_cases (is_one r && is_some (value_at (key_in r) ms)) (has_one rs ms) e)

group_by : (rs : List Row) (k : List ℕ) (t : Json) (ms : Members) (o : Option Row) → row_for k rs ≡ o → has_group (with_row o (rows_of rs (keys_of ms))) ≡ true
    → (has_group (rows_of rs (keys_of ms)) ≡ true → has_one rs ms ≡ true) → has_one rs (member k t ms) ≡ true
group_by rs k t ms None p e next = one_later rs k t ms (next e)
group_by rs k t ms (Some s) p e next = ⊎_elim
    (λ a. one_of_table k rs s (member k t ms) p a (here (is_spelled (key_in s) k) t (value_at (key_in s) ms) (found_key k rs s p)))
    (λ b. one_later rs k t ms (next b))
    (or_cases (is_one s) (has_group (rows_of rs (keys_of ms))) e)

group_there : (rs : List Row) (ms : Members) → has_group (rows_of rs (keys_of ms)) ≡ true → has_one rs ms ≡ true
group_there rs no_members e = absurd (true≢false (sym e))
group_there rs (member k t ms) e = group_by rs k t ms (row_for k rs) refl e (group_there rs ms)

one_clash : (q : Key) (w : Kind) (seen : List Row) → clashes (row.One q w) seen ≡ true → (has_row q seen ≡ true) ⊎ (has_group seen ≡ true)
one_clash q w [] e = absurd (true≢false (sym e))
one_clash q w (s ∷ seen) e = ⊎_elim
    (λ a. ⊎_elim
    (λ c. inl (or_left (bytes_eq (spelled q) (spelled (key_in s))) (has_row q seen) c))
    (λ c. inr (or_left (is_one s) (has_group seen) c))
    (or_cases (bytes_eq (spelled q) (spelled (key_in s))) (is_one s) a))
    (λ b. ⊎_elim
    (λ c. inl (or_right (bytes_eq (spelled q) (spelled (key_in s))) (has_row q seen) c))
    (λ c. inr (or_right (is_one s) (has_group seen) c))
    (one_clash q w seen b))
    (or_cases (clash (row.One q w) s) (clashes (row.One q w) seen) e)

one_seen : (k : List ℕ) (rs seen : List Row) (q : Key) (w : Kind) → row_for k rs ≡ Some (row.One q w) → missing seen rs ≡ None → (has_row q seen ≡ true) ⊎ (has_group seen ≡ true)
one_seen k [] seen q w p e = absurd cc
one_seen k (r ∷ rs) seen q w p e =
    let h = or_none (cond (clashes r seen) None (missed r)) (missing seen rs) e in
    row_cases (is_spelled (key_in r) k) r (row.One q w) (row_for k rs) p
    (λ b same. one_clash q w seen (not_missed (clashes (row.One q w) seen) (cause.MissingKey (codes "expression")) (subst (λ (x : Row). cond (clashes x seen) None (missed x) ≡ None) same h.0)))
    (λ l. one_seen k rs seen q w l h.1)

-- one of the keys is there, where the table has such a key
pub one_is_there : (v : Kind) (q : Key) (w : Kind) (ms : Members) → HasRow v (row.One q w) → keyed (rows v) [] (keys_of ms) ≡ None → has_one (rows v) ms ≡ true
one_is_there v q w ms h e = ⊎_elim
    (λ a. one_of_table (spelled q) (rows v) (row.One q w) ms h.0 refl (row_there q (rows v) ms a))
    (λ b. group_there (rows v) ms b)
    (one_seen (spelled q) (rows v) (rows_of (rows v) (keys_of ms)) q w h.0 (are_keyed (rows v) [] (keys_of ms) e).complete)

-- ---- and no other

one_clashes : (r : Row) (seen : List Row) → is_one r ≡ true → has_group seen ≡ true → clashes r seen ≡ true
one_clashes r [] one e = e
one_clashes r (s ∷ seen) one e = ⊎_elim
    (λ a. or_left (clash r s) (clashes r seen) (or_right (bytes_eq (spelled (key_in r)) (spelled (key_in s))) (is_one r && is_one s) (and_from (is_one r) (is_one s) one a)))
    (λ b. or_right (clash r s) (clashes r seen) (one_clashes r seen one b))
    (or_cases (is_one s) (has_group seen) e)

group_grows : (seen : List Row) (r : Row) → has_group seen ≡ true → has_group (seen ++ r ∷ []) ≡ true
group_grows [] r e = absurd (true≢false (sym e))
group_grows (s ∷ seen) r e = ⊎_elim (λ a. or_left (is_one s) (has_group (seen ++ r ∷ [])) a) (λ b. or_right (is_one s) (has_group (seen ++ r ∷ [])) (group_grows seen r b)) (or_cases (is_one s) (has_group seen) e)

group_gains : (seen : List Row) (r : Row) → is_one r ≡ true → has_group (seen ++ r ∷ []) ≡ true
group_gains [] r e = or_left (is_one r) false e
group_gains (s ∷ seen) r e = or_right (is_one s) (has_group (seen ++ r ∷ [])) (group_gains seen r e)

after_one : (seen rs : List Row) → has_group seen ≡ true → AreFresh seen rs → has_group rs ≡ false
after_one seen [] e f = refl
after_one seen (r ∷ rs) e f =
    or_from (is_one r) (has_group rs)
    (⊎_elim (λ one. absurd (true≢false (sym (one_clashes r seen one e) ∙ f.0))) (λ no. no) (cases_Bool (is_one r)))
    (after_one (seen ++ r ∷ []) rs (group_grows seen r e) f.1)

abbrev IsNone : Option Json → Type 0
IsNone o = o ≡ None

none_by : (v : Kind) (p : Key) (u : Kind) (k : List ℕ) (t : Json) (o : Option Json) (r : Option Row) (rest : List Row) → HasRow v (row.One p u) → row_for k (rows v) ≡ r → has_group (with_row r rest) ≡ false → (has_group rest ≡ false → o ≡ None)
    → cond (is_spelled p k) (Some t) o ≡ None
none_by v p u k t o None rest h e f next =
    cond_both (is_spelled p k) (Some t) o IsNone (λ b. let q : None ≡ Some (row.One p u) = sym e ∙ row_of_key v p (Some (row.One p u)) k h b in absurd cc) (λ b. next f)
none_by v p u k t o (Some s) rest h e f next =
    let g = or_parts (is_one s) (has_group rest) f in
    cond_both (is_spelled p k) (Some t) o IsNone
    (λ b. let q : s ≡ row.One p u = same_Some s (row.One p u) (sym e ∙ row_of_key v p (Some (row.One p u)) k h b) in absurd (true≢false (sym (ap is_one q) ∙ g.0)))
    (λ b. next g.1)

none_of_group : (v : Kind) (p : Key) (u : Kind) (ms : Members) → HasRow v (row.One p u) → has_group (rows_of (rows v) (keys_of ms)) ≡ false → value_at p ms ≡ None
none_of_group v p u no_members h f = refl
none_of_group v p u (member k t ms) h f = none_by v p u k t (value_at p ms) (row_for k (rows v)) (rows_of (rows v) (keys_of ms)) h refl f (none_of_group v p u ms h)

fresh_rest : (seen : List Row) (o : Option Row) (rest : List Row) → AreFresh seen (with_row o rest) → (after : List Row) × AreFresh after rest
fresh_rest seen None rest f = (seen, f)
fresh_rest seen (Some s) rest f = (seen ++ s ∷ [], f.1)

-- behind a key of the group none of it stands
none_behind : (v : Kind) (q : Key) (w : Kind) (p : Key) (u : Kind) (seen : List Row) (k : List ℕ) (t : Json) (ms : Members) → HasRow v (row.One q w) → HasRow v (row.One p u) → is_spelled q k ≡ true
    → AreFresh seen (rows_of (rows v) (keys_of (member k t ms))) → value_at p ms ≡ None
none_behind v q w p u seen k t ms g h e f =
    let fresh = subst (λ (o : Option Row). AreFresh seen (with_row o (rows_of (rows v) (keys_of ms)))) (row_of_key v q (Some (row.One q w)) k g e) f in
    none_of_group v p u ms h (after_one (seen ++ row.One q w ∷ []) (rows_of (rows v) (keys_of ms)) (group_gains seen (row.One q w) refl) fresh.1)

two_keys : (v : Kind) (q : Key) (w : Kind) (p : Key) (u : Kind) (k : List ℕ) → HasRow v (row.One q w) → HasRow v (row.One p u) → bytes_eq (spelled q) (spelled p) ≡ false → is_spelled q k ≡ true → is_spelled p k ≡ true → ⊥
two_keys v q w p u k g h other a b =
    let same : row.One q w ≡ row.One p u = same_Some (row.One q w) (row.One p u) (sym (row_of_key v q (Some (row.One q w)) k g a) ∙ row_of_key v p (Some (row.One p u)) k h b) in
    true≢false (sym (bytes_eq-same (spelled q)) ∙ ap (λ (r : Row). bytes_eq (spelled q) (spelled (key_in r))) same ∙ other)
  where
    bytes_eq-same : (w : List ℕ) → bytes_eq w w ≡ true
    bytes_eq-same w = (bytes_eq-Decides w w).1 refl

only_fresh : (v : Kind) (q : Key) (w : Kind) (p : Key) (u : Kind) (seen : List Row) (ms : Members) → HasRow v (row.One q w) → HasRow v (row.One p u) → bytes_eq (spelled q) (spelled p) ≡ false
    → AreFresh seen (rows_of (rows v) (keys_of ms)) → is_some (value_at q ms) ≡ true → value_at p ms ≡ None
only_fresh v q w p u seen no_members g h other f e = refl
only_fresh v q w p u seen (member k t ms) g h other f e =
    cond_both (is_spelled p k) (Some t) (value_at p ms) IsNone
    (λ b. absurd (⊎_elim
    (λ a. two_keys v q w p u k g h other a b)
    (λ a. true≢false (sym (subst (λ (x : Bool). is_some (cond x (Some t) (value_at q ms)) ≡ true) a e) ∙ ap is_some (none_behind v p u q w seen k t ms h g b f)))
    (cases_Bool (is_spelled q k))))
    (λ b. ⊎_elim
    (λ a. none_behind v q w p u seen k t ms g h a f)
    (λ a. let r = fresh_rest seen (row_for k (rows v)) (rows_of (rows v) (keys_of ms)) f in
    only_fresh v q w p u r.0 ms g h other r.1 (subst (λ (x : Bool). is_some (cond x (Some t) (value_at q ms)) ≡ true) a e))
    (cases_Bool (is_spelled q k)))

-- where one key of the group is there, no other is
pub only_one : (v : Kind) (q : Key) (w : Kind) (p : Key) (u : Kind) (ms : Members) → HasRow v (row.One q w) → HasRow v (row.One p u) → bytes_eq (spelled q) (spelled p) ≡ false → keyed (rows v) [] (keys_of ms) ≡ None
    → is_some (value_at q ms) ≡ true → value_at p ms ≡ None
only_one v q w p u ms g h other e there = only_fresh v q w p u [] ms g h other (are_keyed (rows v) [] (keys_of ms) e).fresh there
