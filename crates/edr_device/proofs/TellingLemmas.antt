-- What calls one after the other do to what an object tells.
use Rattle.std.specs.Prelude.{ℕ, List, Option, Some, None}
use Rattle.edr_device.specs.Told.{Told}

-- two calls
pub told_again : (P Q R : List ℕ → List ℕ → Type 0) → ((a b c : List ℕ) → P a b → Q b c → R a c) → (x y z : Option (List ℕ)) → Told P x y → Told Q y z → Told R x z
told_again P Q R again None None None t u = tt
told_again P Q R again (Some a) (Some b) (Some c) t u = again a b c t u
told_again P Q R again None (Some b) z t u = absurd t
told_again P Q R again (Some a) None z t u = absurd t
told_again P Q R again None None (Some c) t u = absurd u
told_again P Q R again (Some a) (Some b) None t u = absurd u
