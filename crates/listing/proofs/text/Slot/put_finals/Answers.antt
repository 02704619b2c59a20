-- The letter, a flag for each state, and the line's end.
use Rattle.std.proofs.Common.{◌≡◌, ℕ, ◌+◌, ◌-◌, ◌≤◌, eqb, List, map, length, get_or, take, drop, ap, ◌∙◌, arith, rules}
use Rattle.std.specs.List.{range_with_len}
use Rattle.automata.specs.Atoms.{one_if}
use Rattle.tables.specs.Texts.{fields}
use Rattle.listing.proofs.Takings.{takes_is, takes_line}
use Rattle.listing.proofs.Cells.{side_by_side}
use Rattle.listing.proofs.text.Slot.put_finals.Goals as goal

pub returns : goal.returns
returns g c =
    let k : ℕ = c.args.self.now.states in
    let bs : List ℕ = c.args.self.now.bytes.now in
    let flag : ℕ → ℕ = λ b. one_if (eqb b 1) in
    let e : 1 + c.from.result - 1 ≡ k = omega arith in
    let room : 1 + k ≤ length bs = omega (arith, c.args.self.now.long, c.args.self.now.few) in
    takes_line (map (λ s. flag (get_or bs (1 + s) 0)) (range_with_len 0 k)) c.put.ensures
    (takes_is (ap fields (ap (λ (n : ℕ). map flag (take n (drop 1 bs))) e ∙ side_by_side flag bs 1 k room))
    (c.put_fields.ensures flag (λ b n h p. search rules)))
    c.put-2.ensures
