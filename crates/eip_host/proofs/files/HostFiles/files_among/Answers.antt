use Rattle.std.proofs.Common.{ℕ, ◌++◌, List, [], ◌∷◌, Ok, true, false, sym, ap, ◌∙◌, map, length, string_bytes, append_assoc, arith}
use Rattle.std.proofs.lemmas.List.{map-append}
use Rattle.std.specs.Vec.Iter.{into_iter_items}
use Rattle.eip_host.specs.Paths.{path_of}
use Rattle.eip_host.proofs.ListingLaws.{none-found, file-kept, other-left-out}
use Rattle.eip_host.proofs.files.HostFiles.files_among.Goals as goal

pub loop-name-init : goal.loop-name-init
loop-name-init g c =
    let gives = c.into_iter-name-iterator.ensures.into_iter_gives in
    record {
      seen = [];
      behind = ap (map string_bytes) gives.0;
      files = rw c.new-names.ensures.items (none-found _ _);
      left = omega (arith, ap length gives.0, gives.1, c.args.found.ok.0);
    }

pub loop-name-preserved-in-Continue-branch-2 : goal.loop-name-preserved-in-Continue-branch-2
loop-name-preserved-in-Continue-branch-2 g c =
    let n : List ℕ = string_bytes c.in-Some.name in
    let told : g.D.FileSystem.tells c.args.self.now.system (path_of c.args.folder.now n) (Ok true) =
    rw (← c.as_str.ensures.value, ← c.if-is_file.true) c.in_ok-is_file.ensures.told in
    record {
      seen = c.loop-name.invariant.seen ++ n ∷ [];
      behind = append_assoc c.loop-name.invariant.seen (n ∷ []) (map string_bytes (into_iter_items c.next.new.self))
          ∙ ap (λ (r : List (List ℕ)). c.loop-name.invariant.seen ++ r) (sym (ap (map string_bytes) c.in-Some.ensures.steps.0))
          ∙ c.loop-name.invariant.behind;
      files = rw (c.in_ok-push.ensures.items, map-append string_bytes c.loop-name.names.items (c.in-Some.name ∷ []))
          (file-kept _ _ n _ _ c.loop-name.invariant.files told);
      left = omega (arith, c.loop-name.invariant.left, ap length c.in-Some.ensures.steps.0, c.in-Some.ensures.steps.1);
    }

pub loop-name-preserved : goal.loop-name-preserved
loop-name-preserved g c =
    let n : List ℕ = string_bytes c.in-Some.name in
    let told : g.D.FileSystem.tells c.args.self.now.system (path_of c.args.folder.now n) (Ok false) =
    rw (← c.as_str.ensures.value, ← c.if-is_file.false) c.in_ok-is_file.ensures.told in
    record {
      seen = c.loop-name.invariant.seen ++ n ∷ [];
      behind = append_assoc c.loop-name.invariant.seen (n ∷ []) (map string_bytes (into_iter_items c.next.new.self))
          ∙ ap (λ (r : List (List ℕ)). c.loop-name.invariant.seen ++ r) (sym (ap (map string_bytes) c.in-Some.ensures.steps.0))
          ∙ c.loop-name.invariant.behind;
      files = other-left-out _ _ n _ _ c.loop-name.invariant.files told;
      left = omega (arith, c.loop-name.invariant.left, ap length c.in-Some.ensures.steps.0, c.in-Some.ensures.steps.1);
    }
