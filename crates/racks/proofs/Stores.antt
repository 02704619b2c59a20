-- Slots in a store: they stand in its front, and writing one leaves the others as they were.
use Rattle.std.proofs.Common.{◌≡◌, ℕ, suc, ◌+◌, ◌-◌, ◌*◌, ◌<◌, ◌≤◌, ◌⊎◌, List, ◌++◌, length, take, drop, replicate, sym, ap, ◌∙◌, inl, inr, mul-le-mul_right, arith}
use Rattle.std.proofs.lemmas.List.{length-append, length-take-le, length-drop, append_assoc, take-take, take_at, take-append-le, drop_at, drop-drop, drop-append-le, drop-take, take-replicate, drop-replicate}

module _ (W : ℕ) where
  -- the bytes of slot k
  abbrev pub part : List ℕ → ℕ → List ℕ
  part store k = take W (drop (k * W) store)

  -- a slot ends where the next begins
  pub ends : (j k : ℕ) → j < k → j * W + W ≤ k * W
  ends j k h = let z : suc j * W ≤ k * W = mul-le-mul_right W h in omega arith

  -- a slot that ends in the front is a slot of the front
  pub in_front : (store : List ℕ) (n k : ℕ) → k * W + W ≤ n → part (take n store) k ≡ part store k
  in_front store n k h =
      let e : n ≡ k * W + (n - k * W) = omega arith in
      ap (λ (m : ℕ). part (take m store) k) e
      ∙ (ap (take W) (drop-take (k * W) (n - k * W) store) ∙ take-take W (n - k * W) (drop (k * W) store) (omega arith))

  -- each slot of zeros is zeros
  pub all_zeros : (n k : ℕ) → k * W + W ≤ n → part (replicate n 0) k ≡ replicate W 0
  all_zeros n k h = ap (take W) (drop-replicate (k * W) n 0) ∙ take-replicate W (n - k * W) 0 (omega arith)

  module _ (store bs : List ℕ) (k : ℕ) (long : length bs ≡ W) (room : k * W + W ≤ length store) where
    abbrev written : List ℕ
    written = take (k * W) store ++ (bs ++ drop (k * W + W) store)

    before : length (take (k * W) store) ≡ k * W
    before = length-take-le (k * W) store (omega arith)

    pub written_length : length written ≡ length store
    written_length =
        length-append (take (k * W) store) (bs ++ drop (k * W + W) store)
        ∙ omega (arith, length-append bs (drop (k * W + W) store), before, length-drop (k * W + W) store)

    pub written_here : part written k ≡ bs
    written_here = ap (take W) (drop_at (take (k * W) store) (bs ++ drop (k * W + W) store) (k * W) before) ∙ take_at bs (drop (k * W + W) store) W long

    -- a slot before k
    earlier : (j : ℕ) (rest : List ℕ) → j < k → part (take (k * W) store ++ rest) j ≡ part store j
    earlier j rest h =
        let e = ends j k h in
        ap (take W) (drop-append-le (j * W) (take (k * W) store) rest (omega (arith, before)))
        ∙ (take-append-le W (drop (j * W) (take (k * W) store)) rest (omega (arith, length-drop (j * W) (take (k * W) store), before))
        ∙ in_front store (k * W) j e)

    -- what stands after slot k
    after : drop (k * W + W) written ≡ drop (k * W + W) store
    after =
        ap (drop (k * W + W)) (sym (append_assoc (take (k * W) store) bs (drop (k * W + W) store)))
        ∙ drop_at (take (k * W) store ++ bs) (drop (k * W + W) store) (k * W + W) (length-append (take (k * W) store) bs ∙ omega (arith, before))

    later : (j : ℕ) → k < j → part written j ≡ part store j
    later j h =
        let z = ends k j h in
        let e : j * W ≡ (k * W + W) + (j * W - (k * W + W)) = omega arith in
        ap (λ (n : ℕ). take W (drop n written)) e
        ∙ (ap (take W) (sym (drop-drop (j * W - (k * W + W)) (k * W + W) written)
        ∙ (ap (drop (j * W - (k * W + W))) after ∙ drop-drop (j * W - (k * W + W)) (k * W + W) store))
        ∙ ap (λ (n : ℕ). take W (drop n store)) (sym e))

    pub written_there : (j : ℕ) → (j < k) ⊎ (k < j) → part written j ≡ part store j
    written_there j (inl h) = earlier j (bs ++ drop (k * W + W) store) h
    written_there j (inr h) = later j h
