-- Clauses on what a call answered.
use Rattle.edr_device.specs.Device.{StillTells}
use Rattle.std.specs.Prelude.{ℕ, List, Option, Some, None, Result, Ok, Err, OnOk, OnErr}

pub map_ok : {T E P Q : Type 0} (r : Result T E) → OnOk r P → (P → Q) → OnOk r Q
map_ok (Ok x) p f = f p
map_ok (Err e) p f = tt

pub map_err : {T E P Q : Type 0} (r : Result T E) → OnErr r P → (P → Q) → OnErr r Q
map_err (Ok x) p f = tt
map_err (Err e) p f = f p

-- a device that nothing was done to
pub tells_self : (content : Option (List ℕ)) → StillTells content content
tells_self None = tt
tells_self (Some bytes) = tt
