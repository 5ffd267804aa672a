-- What a reader's tests say of its answer.
use Rattle.std.proofs.Common.{◌≡◌, Bool, true, false, cond, Result, Ok, Err, refl}
use Rattle.tipc_proto.specs.declared.faults.FrameFault.{FrameFault}

-- a test that found no fault
pub passed : {A : Type 0} (b : Bool) (fault : FrameFault) (r : Result A FrameFault) (y : A) → cond b (Err fault) r ≡ Ok y → (b ≡ false) × (r ≡ Ok y)
passed true fault r y e = absurd cc
passed false fault r y e = (refl, e)

-- a test that had to hold
pub held : {A : Type 0} (b : Bool) (r : Result A FrameFault) (fault : FrameFault) (y : A) → cond b r (Err fault) ≡ Ok y → (b ≡ true) × (r ≡ Ok y)
held true r fault y e = (refl, e)
held false r fault y e = absurd cc

abbrev gives : {A : Type 0} → A → Result A FrameFault
gives x = Ok x

pub same_value : {A : Type 0} (x y : A) → gives x ≡ gives y → x ≡ y
same_value x y e = cc
