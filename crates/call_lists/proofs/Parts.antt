-- The parts that a record's spans name.
use Prim.Native.Nat.{ℕ, ◌+◌, ◌-◌, ◌≤◌, ◌<◌}
use mathlib.Core.Path.{◌≡◌, refl, sym}
use mathlib.Core.Bool.{true, false, ◌&&◌}
use mathlib.Core.List.{List}
use native.Mathlib.Omega.{arith}
use lib.Dec.{leb}
use lib.ListN.{take, drop}
use borrow.Author.Tests.{le-leb, lt-leb, leb-true}
use Rattle.lists.proofs.Tests.{both, same_test}
use Rattle.call_lists.specs.declared.record.Span.{Span}
use Rattle.call_lists.specs.declared.record.CallRecord.{CallRecord}
use Rattle.call_lists.specs.Calls.{part, span_fits, spans_fit}

-- the part from a span's start to its end
pub part_is : {A : Type 0} (run : List A) (s : Span) → take ((s.start + s.length) - s.start) (drop s.start run) ≡ part run s
part_is run s = let l : (s.start + s.length) - s.start ≡ s.length = omega arith in rw l refl

-- whether a span fits, without its end
pub fits_past : (size : ℕ) (s : Span) → size < s.start → false ≡ span_fits size s
fits_past size s h = sym (lt-leb (s.start + s.length) size (omega (arith, h)))

pub fits_left : (size : ℕ) (s : Span) → s.start ≤ size → leb s.length (size - s.start) ≡ span_fits size s
fits_left size s h =
    same_test (leb s.length (size - s.start)) (span_fits size s)
    (λ e. le-leb (s.start + s.length) size (omega (arith, h, leb-true s.length (size - s.start) e)))
    (λ e. le-leb s.length (size - s.start) (omega (arith, h, leb-true (s.start + s.length) size e)))

-- where all spans fit, each ends within its run
module _ (lists_size names_size : ℕ) (r : CallRecord) (h : spans_fit lists_size names_size r ≡ true) where
  apart : (span_fits lists_size r.words ≡ true) × (span_fits names_size r.name ≡ true) × (span_fits names_size r.names ≡ true)
  unfolding spans_fit
  apart =
      let p = both (span_fits lists_size r.words && span_fits names_size r.name) (span_fits names_size r.names) h in
      let q = both (span_fits lists_size r.words) (span_fits names_size r.name) p.0 in
      (q.0, q.1, p.1)

  pub words_fit : r.words.start + r.words.length ≤ lists_size
  words_fit = leb-true (r.words.start + r.words.length) lists_size apart.0

  pub name_fits : r.name.start + r.name.length ≤ names_size
  name_fits = leb-true (r.name.start + r.name.length) names_size apart.1

  pub names_fit : r.names.start + r.names.length ≤ names_size
  names_fit = leb-true (r.names.start + r.names.length) names_size apart.2
