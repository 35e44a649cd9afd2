-- By the kind, the last arm's being 5.
use mathlib.Core.Path.{◌≡◌, refl}
use native.Mathlib.Omega.{arith}
use Rattle.class_layout.specs.Fragments.{opening_size, roots_of}
use Rattle.class_layout.specs.Sizes.{numbered}
use Rattle.class_layout.proofs.openings.opening_of.Goals as goal

pub returns-in-2 : goal.returns-in-2
unfolding opening_size roots_of numbered
returns-in-2 c =
    record {
      size = rw c.in-2.is;
      roots = rw c.in-2.is;
      none = λ z. absurd (omega arith);
      small = (omega arith, omega arith, omega arith);
    }

pub returns-in-3 : goal.returns-in-3
unfolding opening_size roots_of numbered
returns-in-3 c =
    record {
      size = rw c.in-3.is;
      roots = rw c.in-3.is;
      none = λ z. refl;
      small = (omega arith, omega arith, omega arith);
    }

pub returns-in-4 : goal.returns-in-4
unfolding opening_size roots_of numbered
returns-in-4 c =
    record {
      size = rw c.in-4.is;
      roots = rw c.in-4.is;
      none = λ z. absurd (omega arith);
      small = (omega arith, omega arith, omega arith);
    }

pub returns-in_default : goal.returns-in_default
unfolding opening_size roots_of numbered
returns-in_default c =
    let k : c.args.kind ≡ 5 = omega arith in
    record { size = rw k; roots = rw k; none = λ z. absurd (omega arith); small = (omega arith, omega arith, omega arith) }
