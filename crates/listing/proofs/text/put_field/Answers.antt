-- The digits put are those of the number.
use Rattle.std.proofs.Common.{◌≡◌, ℕ, ◌+◌, ◌%◌, List, [], ◌∷◌, sym, ap, ◌∙◌, arith}
use Rattle.std.proofs.lemmas.Fmt.{decimal_digit}
use Rattle.listing.proofs.Takings.{takes_is, takes_from, takes_then, two_digits, three_digits}
use Rattle.listing.proofs.text.put_field.Goals as goal
use Rattle.listing.proofs.text.put_field.Goals.{then-number-ge-THREE_DIGITS, else-number-ge-THREE_DIGITS}
use Rattle.listing.proofs.text.put_field.Goals.{then-number-ge-TWO_DIGITS, else-number-ge-TWO_DIGITS}

pub returns : goal.returns
returns g c = elim c.if-number-ge-THREE_DIGITS.branch [
  | then-number-ge-THREE_DIGITS w ↦ elim c.if-number-ge-TWO_DIGITS.branch [
    | then-number-ge-TWO_DIGITS v ↦
        takes_is (ap (λ (ds : List ℕ). 44 ∷ ds) (sym (three_digits c.args.number w.if-number-ge-THREE_DIGITS.true (omega arith))))
        (takes_then (takes_then c.put.ensures w.put-then-number-ge-THREE_DIGITS.ensures)
        (takes_then (takes_from w.sink-is v.put-then-number-ge-TWO_DIGITS.ensures) (takes_from v.sink-is c.put-2.ensures)))
    | else-number-ge-TWO_DIGITS v ↦ absurd (omega (arith, w.if-number-ge-THREE_DIGITS.true, v.if-number-ge-TWO_DIGITS.false))
  ]
  | else-number-ge-THREE_DIGITS w ↦ elim c.if-number-ge-TWO_DIGITS.branch [
    | then-number-ge-TWO_DIGITS v ↦
        takes_is (ap (λ (ds : List ℕ). 44 ∷ ds) (sym (two_digits c.args.number v.if-number-ge-TWO_DIGITS.true w.if-number-ge-THREE_DIGITS.false)))
        (takes_then c.put.ensures (takes_then (takes_from w.sink-is v.put-then-number-ge-TWO_DIGITS.ensures) (takes_from v.sink-is c.put-2.ensures)))
    | else-number-ge-TWO_DIGITS v ↦
        let e : c.args.number % 10 ≡ c.args.number = omega (arith, v.if-number-ge-TWO_DIGITS.false) in
        takes_is (ap (λ (ds : List ℕ). 44 ∷ ds) (ap (λ (d : ℕ). (48 + d) ∷ []) e ∙ sym (decimal_digit c.args.number v.if-number-ge-TWO_DIGITS.false)))
        (takes_then c.put.ensures (takes_from w.sink-is (takes_from v.sink-is c.put-2.ensures)))
  ]
]
