-- `type_of` meets its contract: each arm leads to the type of its code.
use mathlib.Core.Path.{refl}
use Rattle.lists.specs.Lists.{any}
use Rattle.layout.specs.Types.{types, is_type, in_type}
use Rattle.column_types.proofs.Ranges.{of_type, other, of_none}
use Rattle.column_types.proofs.type_of.Goals as goal

pub returns-in-1 : goal.returns-in-1
unfolding is_type in_type any types
returns-in-1 c = of_type 0 c.in-1.is refl (λ v. refl)

pub returns-in-2 : goal.returns-in-2
unfolding is_type in_type any types
returns-in-2 c = of_type 1 c.in-2.is refl (λ v. refl)

pub returns-in-3 : goal.returns-in-3
unfolding is_type in_type any types
returns-in-3 c = of_type 2 c.in-3.is refl (λ v. refl)

pub returns-in-4 : goal.returns-in-4
unfolding is_type in_type any types
returns-in-4 c = of_type 3 c.in-4.is refl (λ v. refl)

pub returns-in-5 : goal.returns-in-5
unfolding is_type in_type any types
returns-in-5 c = of_type 4 c.in-5.is refl (λ v. refl)

pub returns-in-6 : goal.returns-in-6
unfolding is_type in_type any types
returns-in-6 c = of_type 5 c.in-6.is refl (λ v. refl)

pub returns-in-7 : goal.returns-in-7
unfolding is_type in_type any types
returns-in-7 c = of_type 6 c.in-7.is refl (λ v. refl)

pub returns-in-8 : goal.returns-in-8
unfolding is_type in_type any types
returns-in-8 c = of_type 7 c.in-8.is refl (λ v. refl)

pub returns-in_default : goal.returns-in_default
unfolding is_type any types
returns-in_default c =
    let code = c.args.code in
    let r = c.in_default.in_default-own.rest in
    of_none code (rw (
      other 1 r.0.0.0.0.0.0.0.1,
      other 2 r.0.0.0.0.0.0.1,
      other 3 r.0.0.0.0.0.1,
      other 4 r.0.0.0.0.1,
      other 5 r.0.0.0.1,
      other 6 r.0.0.1,
      other 7 r.0.1,
      other 8 r.1,
    ) refl)
