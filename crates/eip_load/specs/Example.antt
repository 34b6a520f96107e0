-- The first items of a load test, computed by the rule.
use Rattle.std.specs.Prelude.{◌≡◌, ℕ, List, [], ◌∷◌, codes, refl}
use Rattle.std.specs.Fmt.{digits}
use Rattle.eip_endpoint.specs.declared.source.Pulled.{Pulled}
use Rattle.eip_endpoint.specs.declared.source.Pulled.TheVariants.{Item}
use Rattle.eip_load.specs.Items.{items_of}

-- an item by its name, its headers `order` and `customer`, and its body
abbrev pub written : List ℕ → List ℕ → List ℕ → List ℕ → Pulled
written name order customer body =
    Item name (record { body = body; headers = (codes "order", order) ∷ (codes "customer", customer) ∷ []; properties = [] })

-- item 5 repeats item 4 under its own name, and item 10 item 9
pub first_ten : items_of 10
    ≡ written (codes "1") (codes "1") (codes "0") (codes "45")
    ∷ written (codes "2") (codes "2") (codes "0") (codes "6")
    ∷ written (codes "3") (codes "3") (codes "0") (codes "75")
    ∷ written (codes "4") (codes "4") (codes "1") (codes "24")
    ∷ written (codes "5") (codes "4") (codes "1") (codes "24")
    ∷ written (codes "6") (codes "6") (codes "2") (codes "73")
    ∷ written (codes "7") (codes "7") (codes "3") (codes "78")
    ∷ written (codes "8") (codes "8") (codes "1") (codes "59")
    ∷ written (codes "9") (codes "9") (codes "1") (codes "92")
    ∷ written (codes "10") (codes "9") (codes "1") (codes "92") ∷ []
unfolding digits
first_ten = refl
