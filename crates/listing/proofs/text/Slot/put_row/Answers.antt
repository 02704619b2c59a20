-- The letter, three fields, the cells, and the line's end.
use Rattle.std.proofs.Common.{◌≡◌, ℕ, ◌+◌, ◌-◌, ◌≤◌, List, [], ◌∷◌, map, length, take, drop, ap, ◌∙◌, arith, rules}
use Rattle.std.specs.List.{range_with_len}
use Rattle.tables.specs.Images.{kept}
use Rattle.tables.specs.Texts.{fields}
use Rattle.listing.specs.Rows.{read}
use Rattle.listing.proofs.Takings.{takes_is, takes_fields, takes_line}
use Rattle.listing.proofs.Cells.{inner_room, inner_cells}
use Rattle.listing.proofs.text.Slot.put_row.Goals as goal

pub slice_bounds-put_cells-end : goal.slice_bounds-put_cells-end
slice_bounds-put_cells-end g c =
    let room : c.inner_address-start.result + c.from-2.result ≤ length c.args.self.now.bytes.now
    = omega (
      arith,
      c.from-2.ensures,
      inner_room c.args.self.now c.args.label c.args.marks c.args.left c.from.result c.inner_address-start.result
          c.requires.label c.requires.marks c.requires.left c.inner_address-start.ensures c.from.ensures,
    ) in
    search rules

pub returns : goal.returns
returns g c =
    let s = c.args.self.now in
    let i : ℕ = c.inner_address-start.result in
    let row : List ℕ = map ((read s).inner_cell c.args.label c.args.marks c.args.left) (range_with_len 0 s.states) in
    let room = inner_room s c.args.label c.args.marks c.args.left c.from.result i
    c.requires.label c.requires.marks c.requires.left c.inner_address-start.ensures c.from.ensures in
    let n : i + c.from-2.result - i ≡ s.states = omega (arith, c.from-2.ensures) in
    takes_line (c.args.label ∷ c.args.marks ∷ c.args.left ∷ row) c.put.ensures
    (takes_fields (c.args.label ∷ c.args.marks ∷ c.args.left ∷ []) row
    (c.put_fields.ensures (λ n. n) (λ b n h p. p))
    (takes_is
    (ap fields (ap (λ (m : ℕ). map (kept s.states) (take m (drop i s.bytes.now))) n
    ∙ inner_cells s.layout.shape s.layout.most s.states s.bytes.now i s.states room c.args.label c.args.marks c.args.left c.from.result
    c.inner_address-start.ensures c.from.ensures))
    c.put_cells.ensures))
    c.put-2.ensures
