-- One fault in answers of several types.
use Rattle.std.proofs.Common.{Result, Ok, Err, ap, subst}
use Rattle.std.specs.Result.{IsErrOf}

-- a result of another type with the same fault has it too
pub same_fault : (A B E : Type 0) (fault other : E) → IsErrOf {T = A} {E = E} (Err fault) other → IsErrOf {T = B} {E = E} (Err fault) other
same_fault A B E fault other e = ap with_fault (ap fault_in e)
  where
    fault_in : Result A E → E
    fault_in (Ok a) = fault
    fault_in (Err f) = f

    with_fault : E → Result B E
    with_fault f = Err f

-- and what is true of the one is true of the other
pub of_same_fault : {A E : Type 0} (P : E → Type 0) (fault other : E) → IsErrOf {T = A} {E = E} (Err fault) other → P fault → P other
of_same_fault {A} {E} P fault other e p = subst P (ap fault_in e) p
  where
    fault_in : Result A E → E
    fault_in (Ok a) = fault
    fault_in (Err f) = f
