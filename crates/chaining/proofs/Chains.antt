-- On sound tables the test tells just what every call keeps.
use Prim.Native.Nat.{ℕ}
use mathlib.Core.Path.{◌≡◌, sym, subst}
use mathlib.Core.Bool.{true}
use native.Mathlib.Omega.{arith}
use Rattle.lists.specs.Lists.{has}
use Rattle.lists.proofs.Tests.{Reflects, either, reflects_and, reflects_implies, reflects_eqb}
use Rattle.lists.proofs.Members.{In, All, each, Any, reflects_all, reflects_any, pair_two}
use Rattle.lists.proofs.Selections.{has_self}
use Rattle.layout.specs.Catalog.{absent, Versioned, DataFile, DeleteFile, Catalog}
use Rattle.ducklake.proofs.facts.Facts.{SucceededBy, DeleteFilesApart, Sound}
use Rattle.ducklake.proofs.commits.Moves.{latest_small_lem}
use Rattle.ducklake.proofs.commits.Good.{Chain}
use Rattle.chaining.specs.Chained.{is_open, has_open_deletes, is_chained}

-- an open data file of that id, an open delete file of that data file

abbrev Open : ℕ → Versioned DataFile → Type 0
Open k f = (f.id ≡ k) × (f.end ≡ absent)

abbrev OpenDeletes : ℕ → Versioned DeleteFile → Type 0
OpenDeletes k e = (e.body.data_file ≡ k) × (e.end ≡ absent)

reflects_is_chained : (C : Catalog)
    → Reflects (is_chained C) (All (λ d. Any (Open d.body.data_file) C.data_files → Any (OpenDeletes d.body.data_file) C.delete_files) C.delete_files)
unfolding is_open has_open_deletes is_chained
reflects_is_chained C =
    reflects_all (λ d. reflects_implies
    (reflects_any (λ f. reflects_and (reflects_eqb f.id d.body.data_file) (reflects_eqb f.end absent)) C.data_files)
    (reflects_any (λ e. reflects_and (reflects_eqb e.body.data_file d.body.data_file) (reflects_eqb e.end absent)) C.delete_files))
    C.delete_files

module _ {C : Catalog} (S : Sound C) (d e : Versioned DeleteFile) (m : In d C.delete_files) (n : In e C.delete_files) (o : OpenDeletes d.body.data_file e) where
  -- an open delete file has no later one: its end is above every begin
  no_later : SucceededBy e d → ⊥
  no_later s = omega (arith, o.1, s.ended, (S.lives.delete_files.at d m).begun, (latest_small_lem S).id)

  holds_all : All (λ p. has p e.body.positions ≡ true) d.body.positions
  holds_all =
      either (pair_two S.deletes.apart d e m n)
      (λ (q : d ≡ e). subst (λ (x : Versioned DeleteFile). All (λ p. has p x.body.positions ≡ true) d.body.positions) q (has_self d.body.positions))
      (λ r. either r
      (λ (a : DeleteFilesApart d e). either (a (sym o.0)) (λ s. s.held) (λ s. absurd (no_later s)))
      (λ (a : DeleteFilesApart e d). either (a o.0) (λ s. absurd (no_later s)) (λ s. s.held)))

-- of two delete files of one data file one succeeds the other, and none succeeds the open one: it holds the positions of all
pub chain_of : (C : Catalog) → Sound C → is_chained C ≡ true → Chain C
chain_of C S h = record {
  covered = λ d m f i q o.
      let r = ((reflects_is_chained C).to h).at d m (f, i, (q, o)) in
      (r.0, r.1, record { same = r.2.0; open' = r.2.1; held = holds_all S d r.0 m r.1 r.2 });
}

pub chain_tells : (C : Catalog) → Chain C → is_chained C ≡ true
chain_tells C H =
    (reflects_is_chained C).from (each (λ d m a.
    let r = H.covered d m a.0 a.1 a.2.0 a.2.1 in (r.0, r.1, (r.2.same, r.2.open'))))
