-- By cases of the filter, as the definition goes.
use mathlib.Core.Path.{sym, ap, ◌∙◌}
use Rattle.std.proofs.Common.{rules}
use mir.Syntax.{w64}
use mir.Facts.{to_z-of_z}
use Rattle.layout.specs.Words.{statistics_in}
use Rattle.ducklake.specs.Readings.{kept}
use Rattle.scans.specs.Filters.{passes}
use Rattle.scans.proofs.filter.file_passes.Goals as goal

pub returns-in-Some : goal.returns-in-Some
returns-in-Some c f e =
    let a = c.args in
    c.file_admits.ensures f e
    ∙ (ap (λ z. kept (statistics_in a.statistics.now a.n) c.in-Some.q.column z f) (to_z-of_z {w = w64} {z = c.in-Some.q.scalar} (search rules))
    ∙ sym (ap (λ q. passes q (statistics_in a.statistics.now a.n) f) c.in-Some.is))

pub returns-in-None : goal.returns-in-None
returns-in-None c f e = sym (ap (λ q. passes q (statistics_in c.args.statistics.now c.args.n) f) c.in-None.is)
