use Rattle.std.proofs.Common.{◌≡◌, [], ◌∷◌, ◌++◌, None, ap, ◌∙◌, rules, length, arith}
use Rattle.eip_keyed.specs.Keyed.{found}
use Rattle.eip_keyed.proofs.KeyedLaws.{found-more}
use Rattle.eip_file.proofs.ListingLaws.{listed-last, stands-put}
use Rattle.eip_file.proofs.source.place_for.Goals as goal

pub returns-in-Ok-clause-left : goal.returns-in-Ok-clause-left
returns-in-Ok-clause-left g c =
    let free : found c.args.uri c.args.listings.now.items ≡ None = search rules in
    let put : c.push.new.self.items ≡ c.args.listings.now.items ++ (c.args.uri, c.new.result) ∷ [] = search rules in
    listed-last c.args.folder.now c.args.uri (g.F.Files.files c.args.files.now) c.args.listings.now.items c.push.new.self.items c.in-Ok.names.items c.new.result
    free put (c.new.ensures ∙ c.leave_out_hidden.ensures) c.in-Ok.ensures.ascending c.in-Ok.ensures.names

pub returns-in-Ok-clause-others : goal.returns-in-Ok-clause-others
returns-in-Ok-clause-others g c = λ v other.
    let put : c.push.new.self.items ≡ c.args.listings.now.items ++ (c.args.uri, c.new.result) ∷ [] = search rules in
    ap (found v) put ∙ found-more v c.args.uri c.args.listings.now.items c.new.result other

pub returns-in-Ok-clause-first : goal.returns-in-Ok-clause-first
returns-in-Ok-clause-first g c =
    let free : found c.args.uri c.args.listings.now.items ≡ None = search rules in
    let put : c.push.new.self.items ≡ c.args.listings.now.items ++ (c.args.uri, c.new.result) ∷ [] = search rules in
    let place : length c.args.listings.now.items ≡ c.len-place.result = omega (arith, c.args.listings.now.ok.0, c.len-place.ensures, c.reserve.ensures.len) in
    stands-put c.args.uri c.len-place.result c.args.listings.now.items c.push.new.self.items c.new.result free put place
