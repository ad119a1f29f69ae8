-- What one call, and one behind another, leave of a board that is told.
use Rattle.std.proofs.Common.{◌≡◌, Option, Some, None, refl}
use Rattle.page_laws.specs.board_core.specs.Core.{Recorded}
use Rattle.owner_ports.specs.Boards.{OnTold}

abbrev Change : Type 1
Change = Recorded → Recorded → Type 0

pub told_here : (b : Option Recorded) (R : Change) → ((x : Recorded) → R x x) → OnTold b b R
told_here None R here = refl
told_here (Some x) R here = here x

pub told_once : (a b : Option Recorded) (R S : Change) → ((x y : Recorded) → R x y → S x y) → OnTold a b R → OnTold a b S
told_once None b R S so is = is
told_once (Some x) None R S so is = is
told_once (Some x) (Some y) R S so is = so x y is

-- the same, with the boards at hand
pub told_from : (a b : Option Recorded) (R S : Change) → ((x y : Recorded) → a ≡ Some x → b ≡ Some y → R x y → S x y) → OnTold a b R → OnTold a b S
told_from None b R S so is = is
told_from (Some x) None R S so is = is
told_from (Some x) (Some y) R S so is = so x y refl refl is

-- both of two changes
pub told_both : (a b : Option Recorded) (R S T : Change) → ((x y : Recorded) → R x y → S x y → T x y) → OnTold a b R → OnTold a b S → OnTold a b T
told_both None b R S T so one two = one
told_both (Some x) None R S T so one two = one
told_both (Some x) (Some y) R S T so one two = so x y one two

untold : (b c : Option Recorded) (R : Change) → b ≡ None → OnTold b c R → c ≡ None
untold None c R none is = is
untold (Some x) c R none is = absurd (cc)

-- one change behind another
pub told_twice : (a b c : Option Recorded) (R S T : Change) → ((x y z : Recorded) → R x y → S y z → T x z) → OnTold a b R → OnTold b c S → OnTold a c T
told_twice None b c R S T so one two = untold b c S one two
told_twice (Some x) None c R S T so one two = absurd one
told_twice (Some x) (Some y) None R S T so one two = absurd two
told_twice (Some x) (Some y) (Some z) R S T so one two = so x y z one two
