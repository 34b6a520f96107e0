-- A URI that is printed is read again: form by form.
use Rattle.std.proofs.Common.{◌≡◌, ℕ, ◌^◌, ◌<◌, ◌≤◌, Bool, true, false, not, cond, eqb, leb, ◌&&◌, List, [], ◌∷◌, ◌++◌, map, Option, Some, None, Ok, refl, sym, ap, subst, ◌∙◌, arith}
use Rattle.std.specs.Prelude.{codes, decimal, bytes_eq}
use Rattle.std.specs.Option.{is_none}
use Rattle.std.specs.Char.{digit_value}
use Rattle.std.proofs.lemmas.Bool.{and_parts, eqb-true, leb-true}
use Rattle.std.proofs.lemmas.Slice.Eq.{bytes_eq-Decides}
use Rattle.eip_text.specs.Counts.{count_of}
use Rattle.eip_text.proofs.CountLemmas.{count_again}
use Rattle.eip_text.specs.Cuts.{behind, holds_byte}
use Rattle.eip_text.specs.Names.{is_name}
use Rattle.eip_text.proofs.Cutting.{cut_again}
use Rattle.eip_uri.specs.declared.uri.Uri.{Uri}
use Rattle.eip_uri.specs.declared.uri.Uri.TheVariants as uri
use Rattle.eip_uri.specs.declared.uri.After.{After}
use Rattle.eip_uri.specs.declared.uri.After.TheVariants as after
use Rattle.eip_uri.specs.declared.uri.Exist.{Exist}
use Rattle.eip_uri.specs.declared.uri.Exist.TheVariants as exist
use Rattle.eip_uri.specs.declared.scheme.Scheme.{Scheme}
use Rattle.eip_uri.specs.declared.scheme.Scheme.TheVariants as scheme
use Rattle.eip_uri.specs.Options.{pair_entry, first_fault, is_folder, has, values_of, exist_of, within}
use Rattle.eip_uri.specs.Reading.{read, scheme_of, plain, with_options, line_parts}
use Rattle.eip_uri.specs.Printed.{Given, where_not, seda_options, file_options, is_override, exist_word, printed}
use Rattle.eip_uri.specs.Ranges.{is_between, is_target, is_after, is_failed, is_uri}
use Rattle.eip_uri.proofs.Again.{AreClean, IsClean, name_lacks, folder_lacks, decimal_lacks, lacks_both, slash_free, form_again, bare_again}

-- ---- numbers

pub within_again : (low high n : ℕ) → n < 2 ^ 32 → is_between low high n ≡ true → within low high (count_of (decimal n)) ≡ Some n
within_again low high n lt h = ap (within low high) (count_again n lt) ∙ ap (λ (t : Bool). cond {A = Option ℕ} t (Some n) None) h

small : (low high n : ℕ) → high < 2 ^ 32 → is_between low high n ≡ true → n < 2 ^ 32
small low high n lt h =
    let le : n ≤ high = leb-true n high (and_parts (leb low n) (leb n high) h).1 in
    omega arith

no_digit_38 : digit_value 38 < 10 → ⊥
no_digit_38 h = absurd (omega arith)

no_digit_47 : digit_value 47 < 10 → ⊥
no_digit_47 h = absurd (omega arith)

no_digit_63 : digit_value 63 < 10 → ⊥
no_digit_63 h = absurd (omega arith)

-- ---- the forms without options

direct_again : (name : List ℕ) → is_name name ≡ true → read (printed (uri.Direct name)) [] ≡ Ok (uri.Direct name)
unfolding read scheme_of plain with_options printed
direct_again name h = bare_again 7 scheme.Direct name (uri.Direct name) (name_lacks 63 name refl h) (slash_free name (name_lacks 47 name refl h)) (rw h refl) refl

log_again : (name : List ℕ) → is_name name ≡ true → read (printed (uri.Log name)) [] ≡ Ok (uri.Log name)
unfolding read scheme_of plain with_options printed
log_again name h = bare_again 4 scheme.Log name (uri.Log name) (name_lacks 63 name refl h) (slash_free name (name_lacks 47 name refl h)) (rw h refl) refl

lane_again : (name : List ℕ) → is_name name ≡ true → read (printed (uri.Lane name)) [] ≡ Ok (uri.Lane name)
unfolding read scheme_of plain with_options printed
lane_again name h = bare_again 5 scheme.Lane name (uri.Lane name) (name_lacks 63 name refl h) (slash_free name (name_lacks 47 name refl h)) (rw h refl) refl

stream_again : read (printed uri.StreamIn) [] ≡ Ok uri.StreamIn
unfolding read scheme_of plain with_options printed
stream_again = refl

load_again : (n : ℕ) → is_between 1 20000 n ≡ true → read (printed (uri.Load n)) [] ≡ Ok (uri.Load n)
unfolding read scheme_of plain with_options printed
load_again n h =
    let lt = small 1 20000 n (omega arith) h in
    bare_again 5 scheme.Load (decimal n) (uri.Load n) (decimal_lacks 63 n no_digit_63 lt) (slash_free (decimal n) (decimal_lacks 47 n no_digit_47 lt)) (rw (within_again 1 20000 n lt h) refl) refl

listen_again : (port : ℕ) → is_between 1 65535 port ≡ true → read (printed (uri.Listen port)) [] ≡ Ok (uri.Listen port)
unfolding read scheme_of plain with_options printed
listen_again port h =
    let lt = small 1 65535 port (omega arith) h in
    bare_again 5 scheme.Line (codes "listen:" ++ decimal port) (uri.Listen port) (decimal_lacks 63 port no_digit_63 lt) refl (rw (within_again 1 65535 port lt h) refl) refl

line_again : (host : List ℕ) (port : ℕ) → is_name host ≡ true → bytes_eq host (codes "listen") ≡ false → is_between 1 65535 port ≡ true → read (printed (uri.Line host port)) [] ≡ Ok (uri.Line host port)
unfolding read scheme_of plain with_options printed
line_again host port h other k =
    let lt = small 1 65535 port (omega arith) k in
    let front = host ++ (58 ∷ decimal port) in
    bare_again 5 scheme.Line front (uri.Line host port) (lacks_both 63 host (58 ∷ decimal port) (name_lacks 63 host refl h) (decimal_lacks 63 port no_digit_63 lt))
    (slash_free front (lacks_both 47 host (58 ∷ decimal port) (name_lacks 47 host refl h) (decimal_lacks 47 port no_digit_47 lt)))
    (ap line_parts (cut_again 58 host (decimal port) (name_lacks 58 host refl h)) ∙ rw (within_again 1 65535 port lt k, other, h) refl) refl

-- ---- the options of `seda:`

-- printed options that are read as what they were printed of
record IsRead (s : Scheme) (bare : Uri) (os : List Given) (u : Uri) : Type 0 where
  pub clean : AreClean os
  pub sound : first_fault s [] (map pair_entry os) ≡ None
  pub settled : with_options bare (map pair_entry os) ≡ Ok u

module _ (name : List ℕ) (size consumers : ℕ) (s : count_of (decimal size) ≡ Some size) (c : count_of (decimal consumers) ≡ Some consumers)
    (s1 : leb 1 size ≡ true) (s2 : leb size 100000 ≡ true) (c1 : leb 1 consumers ≡ true) (c2 : leb consumers 64 ≡ true)
    (h : holds_byte 38 (decimal size) ≡ false) (k : holds_byte 38 (decimal consumers) ≡ false) where
  options : Bool → Bool → Bool → List Given
  options one d usual = where_not one (codes "concurrentConsumers") (decimal consumers) ++ (where_not (not d) (codes "discardWhenFull") (codes "true") ++ where_not usual (codes "size") (decimal size))

  abbrev Reads : Bool → Bool → Bool → Type 0
  Reads one d usual = IsRead scheme.Seda (uri.Seda name 1000 1 false) (options one d usual) (uri.Seda name size consumers d)

  clean_consumers : IsClean (codes "concurrentConsumers", decimal consumers)
  clean_consumers = record { name = refl; whole = k }

  clean_size : IsClean (codes "size", decimal size)
  clean_size = record { name = refl; whole = h }

  clean_discard : IsClean (codes "discardWhenFull", codes "true")
  clean_discard = record { name = refl; whole = refl }

  seda_reads : (one d usual : Bool) → eqb consumers 1 ≡ one → eqb size 1000 ≡ usual → Reads one d usual
  unfolding options values_of has with_options
  seda_reads false false false e f = record { clean = (clean_consumers, (clean_size, tt)); sound = rw (c, c1, c2, s, s1, s2) refl; settled = rw (c, s) refl }
  seda_reads false true false e f = record { clean = (clean_consumers, (clean_discard, (clean_size, tt))); sound = rw (c, c1, c2, s, s1, s2) refl; settled = rw (c, s) refl }
  seda_reads false false true e f = record { clean = (clean_consumers, tt); sound = rw (c, c1, c2) refl; settled = rw (c, eqb-true size 1000 f) refl }
  seda_reads false true true e f = record { clean = (clean_consumers, (clean_discard, tt)); sound = rw (c, c1, c2) refl; settled = rw (c, eqb-true size 1000 f) refl }
  seda_reads true false false e f = record { clean = (clean_size, tt); sound = rw (s, s1, s2) refl; settled = rw (s, eqb-true consumers 1 e) refl }
  seda_reads true true false e f = record { clean = (clean_discard, (clean_size, tt)); sound = rw (s, s1, s2) refl; settled = rw (s, eqb-true consumers 1 e) refl }
  seda_reads true false true e f = record { clean = tt; sound = refl; settled = rw (eqb-true consumers 1 e, eqb-true size 1000 f) refl }
  seda_reads true true true e f = record { clean = (clean_discard, tt); sound = refl; settled = rw (eqb-true consumers 1 e, eqb-true size 1000 f) refl }

seda_again : (name : List ℕ) (size consumers : ℕ) (discard : Bool) → is_name name ≡ true → is_between 1 100000 size ≡ true → is_between 1 64 consumers ≡ true
    → read (printed (uri.Seda name size consumers discard)) [] ≡ Ok (uri.Seda name size consumers discard)
unfolding read scheme_of plain printed options
seda_again name size consumers discard n hs hc =
    let ls = small 1 100000 size (omega arith) hs in
    let lc = small 1 64 consumers (omega arith) hc in
    let ps = and_parts (leb 1 size) (leb size 100000) hs in
    let pc = and_parts (leb 1 consumers) (leb consumers 64) hc in
    let reads = seda_reads name size consumers (count_again size ls) (count_again consumers lc) ps.0 ps.1 pc.0 pc.1 (decimal_lacks 38 size no_digit_38 ls) (decimal_lacks 38 consumers no_digit_38 lc)
    (eqb consumers 1) discard (eqb size 1000) refl refl in
    form_again 5 scheme.Seda name (seda_options size consumers discard) (uri.Seda name 1000 1 false) (uri.Seda name size consumers discard)
    (name_lacks 63 name refl n) (slash_free name (name_lacks 47 name refl n)) reads.clean (rw n refl) reads.sound reads.settled

-- ---- the options of `file:`

-- what is known of the word of a file that is there already
record IsWord (e : Exist) (usual : Bool) (word : List ℕ) : Type 0 where
  pub override : usual ≡ true → exist.Override ≡ e
  pub reads : exist_of word ≡ Some e
  pub clean : holds_byte 38 word ≡ false

word_again : (e : Exist) → IsWord e (is_override e) (exist_word e)
unfolding exist_of
word_again exist.Override = record { override = λ t. refl; reads = refl; clean = refl }
word_again exist.Append = record { override = λ t. absurd cc; reads = refl; clean = refl }
word_again exist.Fail = record { override = λ t. absurd cc; reads = refl; clean = refl }
word_again exist.Ignore = record { override = λ t. absurd cc; reads = refl; clean = refl }

lacking : (t : Bool) → not t ≡ true → t ≡ false
lacking true e = absurd cc
lacking false e = refl

module _ (folder : List ℕ) (e : Exist) (word : List ℕ) where
  exist_part : Bool → List Given
  exist_part usual = where_not usual (codes "fileExist") word

  failed_part : Option (List ℕ) → List Given
  failed_part None = []
  failed_part (Some to) = (codes "moveFailed", to) ∷ []

  abbrev bare : Uri
  bare = uri.File folder (after.Move (codes ".camel")) None exist.Override

  abbrev ReadsFile : List Given → After → Option (List ℕ) → Type 0
  ReadsFile os a failed = IsRead scheme.File bare os (uri.File folder a failed e)

  clean_exist : (usual : Bool) → IsWord e usual word → IsClean (codes "fileExist", word)
  clean_exist usual w = record { name = refl; whole = w.clean }

  clean_move : (to : List ℕ) → is_target to ≡ true → IsClean (codes "move", to)
  clean_move to h = record { name = refl; whole = lacking (holds_byte 38 to) (and_parts (is_folder to) _ h).1 }

  clean_failed : (to : List ℕ) → is_target to ≡ true → IsClean (codes "moveFailed", to)
  clean_failed to h = record { name = refl; whole = lacking (holds_byte 38 to) (and_parts (is_folder to) _ h).1 }

  clean_delete : IsClean (codes "delete", codes "true")
  clean_delete = record { name = refl; whole = refl }

  clean_noop : IsClean (codes "noop", codes "true")
  clean_noop = record { name = refl; whole = refl }

  delete_reads : (usual : Bool) (failed : Option (List ℕ)) → IsWord e usual word → is_failed failed ≡ true
      → ReadsFile ((codes "delete", codes "true") ∷ (exist_part usual ++ failed_part failed)) after.Delete failed
  unfolding exist_part failed_part values_of has with_options
  delete_reads true None w g = record { clean = (clean_delete, tt); sound = refl; settled = rw (w.override refl) refl }
  delete_reads false None w g = record { clean = (clean_delete, (clean_exist false w, tt)); sound = rw w.reads refl; settled = rw w.reads refl }
  delete_reads true (Some to) w g = record { clean = (clean_delete, (clean_failed to g, tt)); sound = rw g refl; settled = rw (w.override refl) refl }
  delete_reads false (Some to) w g = record { clean = (clean_delete, (clean_exist false w, (clean_failed to g, tt))); sound = rw (w.reads, g) refl; settled = rw w.reads refl }

  noop_reads : (usual : Bool) (failed : Option (List ℕ)) → IsWord e usual word → is_failed failed ≡ true
      → ReadsFile (exist_part usual ++ (failed_part failed ++ (codes "noop", codes "true") ∷ [])) after.Noop failed
  unfolding exist_part failed_part values_of has with_options
  noop_reads true None w g = record { clean = (clean_noop, tt); sound = refl; settled = rw (w.override refl) refl }
  noop_reads false None w g = record { clean = (clean_exist false w, (clean_noop, tt)); sound = rw w.reads refl; settled = rw w.reads refl }
  noop_reads true (Some to) w g = record { clean = (clean_failed to g, (clean_noop, tt)); sound = rw g refl; settled = rw (w.override refl) refl }
  noop_reads false (Some to) w g = record { clean = (clean_exist false w, (clean_failed to g, (clean_noop, tt))); sound = rw (w.reads, g) refl; settled = rw w.reads refl }

  -- moved to the folder that is the default one
  usual_reads : (usual : Bool) (failed : Option (List ℕ)) → IsWord e usual word → is_failed failed ≡ true
      → ReadsFile (exist_part usual ++ failed_part failed) (after.Move (codes ".camel")) failed
  unfolding exist_part failed_part values_of has with_options
  usual_reads true None w g = record { clean = tt; sound = refl; settled = rw (w.override refl) refl }
  usual_reads false None w g = record { clean = (clean_exist false w, tt); sound = rw w.reads refl; settled = rw w.reads refl }
  usual_reads true (Some to) w g = record { clean = (clean_failed to g, tt); sound = rw g refl; settled = rw (w.override refl) refl }
  usual_reads false (Some to) w g = record { clean = (clean_exist false w, (clean_failed to g, tt)); sound = rw (w.reads, g) refl; settled = rw w.reads refl }

  move_reads : (usual : Bool) (failed : Option (List ℕ)) (to : List ℕ) → is_target to ≡ true → IsWord e usual word → is_failed failed ≡ true
      → ReadsFile (exist_part usual ++ ((codes "move", to) ∷ failed_part failed)) (after.Move to) failed
  unfolding exist_part failed_part values_of has with_options
  move_reads true None to m w g = record { clean = (clean_move to m, tt); sound = rw m refl; settled = rw (w.override refl) refl }
  move_reads false None to m w g = record { clean = (clean_exist false w, (clean_move to m, tt)); sound = rw (w.reads, m) refl; settled = rw w.reads refl }
  move_reads true (Some back) to m w g = record { clean = (clean_move to m, (clean_failed back g, tt)); sound = rw (m, g) refl; settled = rw (w.override refl) refl }
  move_reads false (Some back) to m w g = record { clean = (clean_exist false w, (clean_move to m, (clean_failed back g, tt))); sound = rw (w.reads, m, g) refl; settled = rw w.reads refl }

  moved_reads : (t usual : Bool) (failed : Option (List ℕ)) (to : List ℕ) → bytes_eq to (codes ".camel") ≡ t → is_target to ≡ true → IsWord e usual word → is_failed failed ≡ true
      → ReadsFile (exist_part usual ++ (where_not t (codes "move") to ++ failed_part failed)) (after.Move to) failed
  moved_reads true usual failed to t m w g =
      subst (λ (x : List ℕ). ReadsFile (exist_part usual ++ failed_part failed) (after.Move x) failed) (sym ((bytes_eq-Decides to (codes ".camel")).0 t)) (usual_reads usual failed w g)
  moved_reads false usual failed to t m w g = move_reads usual failed to m w g

file_reads : (folder : List ℕ) (a : After) (failed : Option (List ℕ)) (e : Exist) → is_after a ≡ true → is_failed failed ≡ true
    → IsRead scheme.File (bare folder e (exist_word e)) (file_options a failed e) (uri.File folder a failed e)
unfolding exist_part failed_part
file_reads folder after.Delete None e h g = delete_reads folder e (exist_word e) (is_override e) None (word_again e) g
file_reads folder after.Delete (Some to) e h g = delete_reads folder e (exist_word e) (is_override e) (Some to) (word_again e) g
file_reads folder after.Noop None e h g = noop_reads folder e (exist_word e) (is_override e) None (word_again e) g
file_reads folder after.Noop (Some to) e h g = noop_reads folder e (exist_word e) (is_override e) (Some to) (word_again e) g
file_reads folder (after.Move to) None e h g = moved_reads folder e (exist_word e) (bytes_eq to (codes ".camel")) (is_override e) None to refl h (word_again e) g
file_reads folder (after.Move to) (Some back) e h g = moved_reads folder e (exist_word e) (bytes_eq to (codes ".camel")) (is_override e) (Some back) to refl h (word_again e) g

file_again : (folder : List ℕ) (a : After) (failed : Option (List ℕ)) (e : Exist) → is_folder folder ≡ true → is_none (behind (codes "//") folder) ≡ true → is_after a ≡ true → is_failed failed ≡ true
    → read (printed (uri.File folder a failed e)) [] ≡ Ok (uri.File folder a failed e)
unfolding read scheme_of plain printed
file_again folder a failed e f k h g =
    let reads = file_reads folder a failed e h g in
    form_again 5 scheme.File folder (file_options a failed e) (uri.File folder (after.Move (codes ".camel")) None exist.Override) (uri.File folder a failed e)
    (folder_lacks folder f) k reads.clean (rw (f, k) refl) reads.sound reads.settled

-- ---- every form

pub uri_again : (u : Uri) → is_uri u ≡ true → read (printed u) [] ≡ Ok u
unfolding is_uri
uri_again (uri.Direct name) h = direct_again name h
uri_again (uri.Seda name size consumers discard) h =
    let p = and_parts (is_name name) _ h in
    let q = and_parts (is_between 1 100000 size) (is_between 1 64 consumers) p.1 in
    seda_again name size consumers discard p.0 q.0 q.1
uri_again (uri.File folder a failed e) h =
    let p = and_parts _ (is_after a && is_failed failed) h in
    let q = and_parts (is_folder folder) (is_none (behind (codes "//") folder)) p.0 in
    let r = and_parts (is_after a) (is_failed failed) p.1 in
    file_again folder a failed e q.0 q.1 r.0 r.1
uri_again uri.StreamIn h = stream_again
uri_again (uri.Log name) h = log_again name h
uri_again (uri.Line host port) h =
    let p = and_parts _ (is_between 1 65535 port) h in
    let q = and_parts (is_name host) (not (bytes_eq host (codes "listen"))) p.0 in
    line_again host port q.0 (lacking (bytes_eq host (codes "listen")) q.1) p.1
uri_again (uri.Listen port) h = listen_again port h
uri_again (uri.Lane name) h = lane_again name h
uri_again (uri.Load n) h = load_again n h
