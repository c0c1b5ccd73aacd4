-- ToldNo: told no, the calls compute to those without the switch, and their theorems stand.
use Rattle.theory.proofs.FindsLeast.{finds-least}
use Rattle.theory.proofs.ReadingBack.{reading-back}
use Rattle.naming.proofs.FindsLeast.{named-finds-least}
use Rattle.naming.proofs.ReadingBack.{named-reading-back}
use Rattle.symmetry.specs.Claims.ToldNo.{ToldNo}

-- the theorem
pub told-no : ToldNo
told-no = record { finds = finds-least; finds_named = named-finds-least; reads_back = reading-back; reads_back_named = named-reading-back }
