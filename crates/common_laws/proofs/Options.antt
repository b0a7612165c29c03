-- An `Option` or a `Result`, and what holds of what it holds.
use Rattle.std.proofs.Common.{◌≡◌, Bool, true, false, cond, Option, Some, None, Result, Ok, Err, IsSomeAnd, IfNone, IsErrAnd, IfErr, sym, subst}

-- what a choice beside `None` holds
pub some_beside_none : {A : Type 0} (b : Bool) (x : Option A) (found : A) → cond b None x ≡ Some found → x ≡ Some found
some_beside_none true x found e = absurd (cc)
some_beside_none false x found e = e

pub holds_of_some : {A : Type 0} (o : Option A) (x : A) (P : A → Type 0) → o ≡ Some x → IsSomeAnd o P → P x
holds_of_some o x P e is = subst (λ o. IsSomeAnd o P) e is

pub if_none : {A : Type 0} {P : Type 0} (o : Option A) → P → IfNone o P
if_none None p = p
if_none (Some x) p = tt

-- the error is the given fault
pub if_err_is : {T E : Type 0} (result : Result T E) (fault : E) (P : E → Type 0) → IsErrAnd result (λ e. e ≡ fault)
    → P fault → IfErr result P
if_err_is (Ok value) fault P is p = tt
if_err_is (Err e) fault P is p = subst P (sym is) p
