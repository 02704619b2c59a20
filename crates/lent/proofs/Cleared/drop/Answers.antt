use Rattle.std.proofs.Common.{◌≡◌, List, [], ◌∷◌, length, replicate, refl, rules}
use Rattle.std.specs.List.{FoldsTo}
use Rattle.lent.proofs.Cleared.drop.Goals as goal

-- where each call answers z and leaves the closure as it was, all items are z
all_same : {P A : Type 0} (R : P → A → P → Type 0) (z : A) (p : P) → ((x : A) (q : P) → R p x q → (x ≡ z) × (q ≡ p)) → (xs : List A) (q : P) → FoldsTo R p xs q → xs ≡ replicate (length xs) z
all_same R z p same [] q h = refl
all_same R z p same (x ∷ xs) q (j, r, h) =
    let e = same x j r in
    let f = all_same R z p same xs q (rw e.1 at h) in
    cc

pub returns : goal.returns
returns g c =
    let h = all_same _ c.zero-zero.result _ (λ x q r. search rules) _ _ c.fill_with.ensures.ran.1 in
    let l = c.fill_with.ensures.len in
    cc
