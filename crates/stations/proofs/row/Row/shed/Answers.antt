use Rattle.std.proofs.Common.{◌-◌, drop, ap, ◌∙◌, arith}
use Rattle.stations.specs.Blocks.{in_row}
use Rattle.stations.proofs.BlockRows.{row, row_drop, row_length, drop_least}
use Rattle.stations.proofs.row.Row.shed.Goals as goal

pub returns : goal.returns
returns c =
    let s = c.args.self.now in
    ap (row (s.count - c.min-gone.result)) c.copy_within.ensures.after
    ∙ row_drop c.min-gone.result s.count s.blocks (omega (arith, c.min-gone.ensures)) (omega (arith, s.whole, s.fits))
    ∙ ap (λ n. drop n (in_row s)) c.min-gone.ensures
    ∙ drop_least (in_row s) c.args.n s.count (row_length s.count s.blocks (omega (arith, s.whole, s.fits)))
