-- The letter, the leaf cells, and the line's end.
use Rattle.std.proofs.Common.{◌≡◌, ℕ, ◌+◌, ◌-◌, ◌^◌, ◌≤◌, map, length, take, drop, ap, ◌∙◌, arith}
use Rattle.std.specs.List.{range_with_len}
use Rattle.tables.specs.Images.{kept}
use Rattle.tables.specs.Texts.{fields, over}
use Rattle.listing.specs.Rows.{read}
use Rattle.listing.proofs.Takings.{takes_is, takes_line}
use Rattle.listing.proofs.Cells.{leaf_cells}
use Rattle.listing.proofs.text.Slot.put_leaves.Goals as goal

pub returns : goal.returns
returns g c =
    let s = c.args.self.now in
    let i : ℕ = c.leaf_address-start.result in
    let n : ℕ = c.leaf_rows.result in
    let e : i + n - i ≡ n = omega arith in
    let room : i + n ≤ length s.bytes.now = omega (arith, s.long, c.leaf_address-start.ensures, c.leaf_rows.ensures.is) in
    takes_line (over 0 s.layout.shape.leaves (λ a. map ((read s).leaf_cell a) (range_with_len 0 (2 ^ s.layout.shape.tracks)))) c.put.ensures
    (takes_is
    (ap fields (ap (λ (m : ℕ). map (kept s.states) (take m (drop i s.bytes.now))) e
    ∙ leaf_cells s.layout.shape s.layout.most s.states s.bytes.now i n room c.leaf_address-start.ensures c.leaf_rows.ensures.is))
    c.put_cells.ensures)
    c.put-2.ensures
