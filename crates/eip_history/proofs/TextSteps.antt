-- The texts of a journal, line by line.
use Rattle.std.proofs.Common.{◌≡◌, ℕ, map, ◌+◌, [], ◌∷◌, ◌++◌, Some, length, refl, sym, ap, ◌∙◌}
use Rattle.std.specs.Prelude.{option_map}
use Rattle.std.specs.List.{flat_map, slice_get}
use Rattle.std.proofs.lemmas.List.{append-nil}
use Rattle.std.proofs.lemmas.List.Folds.{flat_map-map}
use Rattle.std.proofs.lemmas.Grind.{flat_map-append}
use Rattle.eip_exchange.specs.declared.birth.Birth.{Birth}
use Rattle.eip_exchange.specs.declared.birth.Origin.{Origin}
use Rattle.eip_ledger.specs.declared.entry.Kind.{Kind}
use Rattle.eip_ledger.specs.declared.entry.Kind.TheVariants.{Refuse}
use Rattle.eip_ledger.specs.declared.entry.Entry.{Entry}
use Rattle.eip_ledger.specs.declared.place.Place.{Place}
use Rattle.eip_ledger.specs.declared.place.Stop.{Stop}
use Rattle.eip_history.specs.Plan.{Plan}
use Rattle.eip_history.specs.Own.{Past, numbered, turns}
use Rattle.eip_history.specs.Groups.{Group}
use Rattle.eip_history.specs.Births.{births}
use Rattle.eip_history.specs.Place.{place, place_of}
use Rattle.eip_history.specs.Stop.{open_groups}
use Rattle.eip_history.specs.Texts.{notes, OfExchange, exchange_lines, refusal_in, refusals, group_line, book_lines}
use Rattle.eip_history.specs.Counts.{total_count, completed_count, handled_count, failed_count, waiting_count, accepted_count, refused_count}
use Rattle.eip_history.specs.BookText.{RouteNames, note_line, log_text_of, exchange_line, line_of_exchange, exchanges_text, origin_of, origin_at, refused_line_in, refusals_text, line_of_group, groups_text, accepted_line, total_line, stop_line, summary_text_of, book_text_of, refused_line, line_text}
use Rattle.eip_history.proofs.Walk.{flat_map-next, flat_map-all, placed-at}

pub log-is : (s : Plan) (past : Past) → log_text_of s past ≡ flat_map note_line (notes s past)
unfolding log_text_of
log-is s past = refl

pub exchanges-none : (s : Plan) (names : RouteNames) (past : Past) → exchanges_text s names past 0 ≡ []
unfolding exchanges_text
exchanges-none s names past = refl

-- one more birth, one more line
pub exchanges-birth : (s : Plan) (names : RouteNames) (past : Past) (k : ℕ) (b : Birth) → slice_get (births s past) k ≡ Some b
    → exchanges_text s names past (k + 1) ≡ exchanges_text s names past k ++ line_of_exchange s names past b
unfolding exchanges_text
exchanges-birth s names past k b at = flat_map-next (line_of_exchange s names past) (births s past) k b at

-- the line of exchange k + 1, by its origin and its place
pub exchanges-more : (s : Plan) (names : RouteNames) (past : Past) (k : ℕ) (o : Origin) (p : Place) → origin_at s past (k + 1) ≡ Some o
    → place s past (k + 1) ≡ Some p
    → exchanges_text s names past (k + 1) ≡ exchanges_text s names past k ++ exchange_line names (k + 1) o p
exchanges-more s names past k o p from at =
    let r = placed-at s past k p at in
    let g : option_map origin_of (numbered (births s past) (k + 1)) ≡ Some r.0.origin = ap (option_map origin_of) r.1 in
    let h : Some r.0.origin ≡ Some o = sym g ∙ from in
    let origin : r.0.origin ≡ o = cc in
    exchanges-birth s names past k r.0 r.2
    ∙ ap (λ l. exchanges_text s names past k ++ l)
    (ap (λ n. exchange_line names n r.0.origin (place_of s past r.0)) r.3
    ∙ (ap (λ u. exchange_line names (k + 1) u (place_of s past r.0)) origin ∙ ap (exchange_line names (k + 1) o) r.4))

-- the lines of all exchanges
pub exchanges-all : (s : Plan) (names : RouteNames) (past : Past)
    → exchanges_text s names past (total_count s past) ≡ flat_map (line_of_exchange s names past) (births s past)
unfolding exchanges_text
exchanges-all s names past = flat_map-all (line_of_exchange s names past) (births s past)

pub refusals-none : (names : RouteNames) → refusals_text names [] ≡ []
unfolding refusals_text
refusals-none names = refl

pub refusals-more : (names : RouteNames) (e : Entry) (past : Past) → refusals_text names (e ∷ past) ≡ refusals_text names past ++ refused_line_in names e.kind
unfolding refusals_text
refusals-more names e past = refl

pub groups-none : (s : Plan) (past : Past) → groups_text s past 0 ≡ []
unfolding groups_text
groups-none s past = refl

-- one more open group, one more line
pub groups-more : (s : Plan) (past : Past) (k : ℕ) (g : Group) → slice_get (open_groups s past) k ≡ Some g
    → groups_text s past (k + 1) ≡ groups_text s past k ++ line_of_group g
unfolding groups_text
groups-more s past k g at = flat_map-next line_of_group (open_groups s past) k g at

-- the lines of all open groups
pub groups-all : (s : Plan) (past : Past) → groups_text s past (length (open_groups s past)) ≡ flat_map line_of_group (open_groups s past)
unfolding groups_text
groups-all s past = flat_map-all line_of_group (open_groups s past)

pub summary-is : (s : Plan) (names : RouteNames) (past : Past) (stop : Stop)
    → summary_text_of s names past stop
    ≡ accepted_line (accepted_count past) (refused_count past)
    ++ (total_line (total_count s past) (completed_count s past) (handled_count s past) (failed_count s past) (waiting_count s past)
    ++ stop_line names (turns past) stop)
unfolding summary_text_of
summary-is s names past stop = refl

pub book-is : (s : Plan) (names : RouteNames) (past : Past) (stop : Stop)
    → book_text_of s names past stop
    ≡ exchanges_text s names past (total_count s past)
    ++ (refusals_text names past ++ (groups_text s past (length (open_groups s past)) ++ summary_text_of s names past stop))
unfolding book_text_of
book-is s names past stop = refl

refusals-lines : (names : RouteNames) (past : Past) → flat_map (line_text names) (refusals past) ≡ refusals_text names past
unfolding refusals refusals_text
refusals-lines names [] = refl
refusals-lines names (e ∷ past) =
    flat_map-append (line_text names) (refusals past) (refusal_in e.kind)
    ∙ (ap (λ xs. xs ++ flat_map (line_text names) (refusal_in e.kind)) (refusals-lines names past) ∙ ap (λ xs. refusals_text names past ++ xs) (by_kind e.kind))
  where
    by_kind : (k : Kind) → flat_map (line_text names) (refusal_in k) ≡ refused_line_in names k
    by_kind (Refuse t item c) = append-nil (refused_line names t item c)
    by_kind _ = refl

-- the lines of the book, given as data, spell its text down to the summary
pub lines-spell : (s : Plan) (names : RouteNames) (past : Past)
    → flat_map (line_text names) (book_lines s past)
    ≡ exchanges_text s names past (total_count s past) ++ (refusals_text names past ++ groups_text s past (length (open_groups s past)))
unfolding book_lines
lines-spell s names past =
    let exchanges = flat_map-map (line_text names) (λ (b : Birth). OfExchange b.number b.origin (place_of s past b)) (births s past) ∙ sym (exchanges-all s names past) in
    let groups = flat_map-map (line_text names) group_line (open_groups s past) ∙ sym (groups-all s past) in
    flat_map-append (line_text names) (exchange_lines s past) (refusals past ++ map group_line (open_groups s past))
    ∙ (ap (λ xs. xs ++ flat_map (line_text names) (refusals past ++ map group_line (open_groups s past))) exchanges
    ∙ ap (λ xs. exchanges_text s names past (total_count s past) ++ xs)
    (flat_map-append (line_text names) (refusals past) (map group_line (open_groups s past))
    ∙ (ap (λ xs. xs ++ flat_map (line_text names) (map group_line (open_groups s past))) (refusals-lines names past)
    ∙ ap (λ xs. refusals_text names past ++ xs) groups)))
