use Rattle.std.proofs.Common.{◌^◌, ◌≤◌, sym, ◌∙◌, arith, pow_mono, lt-ltb, le-leb}
use Rattle.trees.proofs.shape.Shape.has_marks.Goals as goal

-- a byte has no bit past its eighth
pub returns-then-self-ge8 : goal.returns-then-self-ge8
returns-then-self-ge8 c =
    let wide : 8 ≤ c.args.self.tracks = omega arith in
    let grown : 2 ^ 8 ≤ 2 ^ c.args.self.tracks = pow_mono wide in
    le-leb _ _ wide ∙ sym (lt-ltb _ _ (omega arith))
