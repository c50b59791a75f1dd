-- The first cycle of the number 1, computed.
use Rattle.std.proofs.Common.{◌≡◌, refl, List, [], ◌∷◌, codes, true, false, pos, negsuc}
use Rattle.edr_gen.specs.declared.plan.Impulse.{Impulse}
use Rattle.edr_gen.specs.Draws.{draw, impulses_from, plan_from, state_after, state_past}
use Rattle.edr_gen.specs.Cycles.{acting_at, has_firing, samples_at}
use Rattle.edr_gen.specs.Texts.{samples_text}

first : draw 1 1 ≡ 908834774
unfolding draw state_after
first = refl

impulses : List Impulse
impulses =
    record { start = 6153; len = 96; along = negsuc 1869; across = pos 1034; fires = false }
    ∷ record { start = 10130; len = 42; along = negsuc 3088; across = pos 746; fires = false }
    ∷ record { start = 14802; len = 32; along = negsuc 3399; across = pos 1034; fires = true }
    ∷ []

plan : plan_from 1 ≡ record { impulses = impulses; stop = 0 }
unfolding plan_from draw state_after impulses_from impulses
plan = refl

next : state_past 1 ≡ 10554199195565463083
unfolding state_past draw state_after
next = refl

-- the tick at which its air bag fires, and one at which the slow sensors sample
firing : samples_text (samples_at impulses 14832) ≡ codes "along,14832,-3400\nacross,14832,1034\nrestraint,14832,1\n"
unfolding samples_at acting_at has_firing impulses
firing = refl

slow : samples_text (samples_at impulses 6200) ≡ codes "along,6200,-1870\nacross,6200,1034\nspeed,6200,60\nthrottle,6200,20\nbrake,6200,0\nbelt,6200,1\nlamp,6200,0\n"
unfolding samples_at acting_at has_firing impulses
slow = refl

silent : samples_text (samples_at impulses 18000) ≡ codes "along,18000,0\nacross,18000,0\nspeed,18000,60\nthrottle,18000,20\nbrake,18000,0\nbelt,18000,1\nlamp,18000,0\nrestraint,18000,\n"
unfolding samples_at acting_at has_firing impulses
silent = refl
