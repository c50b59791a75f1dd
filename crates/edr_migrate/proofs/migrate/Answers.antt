-- A refusal leaves all as it was; else the image that was read is laid.
use Rattle.std.proofs.Common.{◌≡◌, Some, subst, sym, List, ℕ}
use Rattle.edr_device.proofs.SettlingLemmas.{elapses_more}
use Rattle.edr_image.specs.Image.{image_size, old_refusal, old_view_of}
use Rattle.edr_banks.specs.Laying.{IsPartlyOver, over}
use Rattle.edr_migrate.specs.NewBytes.{IsPartlyMigrated, image_of}
use Rattle.edr_migrate.specs.OldImage.{view_in}
use Rattle.edr_migrate.proofs.ImageViewLemmas.{old_view_sound, view_whole}
use Rattle.edr_migrate.proofs.OutcomeLemmas.{old_over, old_part, part_kept, refused_not_whole, same_part}
use Rattle.edr_migrate.proofs.migrate.Goals as goal

pub returns-in-Err-clause-short : goal.returns-in-Err-clause-short
returns-in-Err-clause-short g c = λ v lacks. absurd (refused_not_whole c.args.old.now c.in-Err.refused v c.in-Err.ensures.refused lacks.old_is)

pub returns-in-Err-clause-complete : goal.returns-in-Err-clause-complete
returns-in-Err-clause-complete g c = λ v has bytes told lacks calm. absurd (refused_not_whole c.args.old.now c.in-Err.refused v c.in-Err.ensures.refused has.old_is)

pub returns-in-Err-clause-each : goal.returns-in-Err-clause-each
returns-in-Err-clause-each g c = λ v seen bytes image quiet left.
    let D = g.N.Nvm in
    let start = c.args.nvm.now in
    same_part v bytes (D.content start) (D.settled start) image quiet (g.met.N.Nvm.only_now start image left)

pub returns-in-Err-clause-kept : goal.returns-in-Err-clause-kept
returns-in-Err-clause-kept g c = λ v seen kept bytes image quiet left. part_kept c.args.old.now v bytes image seen kept (returns-in-Err-clause-each g c v seen bytes image quiet left)

pub lay-requires-clause-whole : goal.lay-requires-clause-whole
lay-requires-clause-whole g c =
    let o = c.in-Ok.image in view_whole (view_in o.header o.count o.bytes.now) (old_view_sound o.header o.count o.bytes.now c.in-Ok.ensures.read.1)

pub returns-in-Ok-lay-clause-done : goal.returns-in-Ok-lay-clause-done
returns-in-Ok-lay-clause-done g c = λ v seen bytes quiet.
    let o = c.in-Ok.image in
    let read = c.in-Ok.ensures.read in
    let seen_there = subst (λ (xs : List ℕ). old_view_of xs ≡ Some v) (sym read.0) seen in
    (over (image_size o.header.banks) (image_of (view_in o.header o.count o.bytes.now)) bytes, c.in-Ok-lay.ensures.done bytes quiet, old_over o.header o.count o.bytes.now v bytes read.1 seen_there)

pub returns-in-Ok-lay-clause-old_refused : goal.returns-in-Ok-lay-clause-old_refused
returns-in-Ok-lay-clause-old_refused g c = λ refused is.
    let o = c.in-Ok.image in
    let read = c.in-Ok.ensures.read in
    let there = subst (λ (xs : List ℕ). old_refusal xs ≡ Some refused) (sym read.0) is in
    absurd (refused_not_whole o.bytes.now refused (view_in o.header o.count o.bytes.now) there read.1.whole)

pub returns-in-Ok-lay-clause-any_moment : goal.returns-in-Ok-lay-clause-any_moment
returns-in-Ok-lay-clause-any_moment g c = λ v seen bytes quiet.
    let D = g.N.Nvm in
    let start = c.args.nvm.now in
    let end = c.lay.new.nvm in
    let o = c.in-Ok.image in
    let read = c.in-Ok.ensures.read in
    let seen_there = subst (λ (xs : List ℕ). old_view_of xs ≡ Some v) (sym read.0) seen in
    elapses_more (D.clock start) (D.since start) (D.since end) (IsPartlyOver (image_size o.header.banks) (image_of (view_in o.header o.count o.bytes.now)) bytes) (IsPartlyMigrated v bytes) (c.lay.ensures.any_moment bytes quiet)
    (λ image part. old_part o.header o.count o.bytes.now v bytes image read.1 seen_there part)

pub returns-in-Ok-lay-clause-each : goal.returns-in-Ok-lay-clause-each
returns-in-Ok-lay-clause-each g c = λ v seen bytes image quiet left.
    let o = c.in-Ok.image in
    let read = c.in-Ok.ensures.read in
    let seen_there = subst (λ (xs : List ℕ). old_view_of xs ≡ Some v) (sym read.0) seen in
    old_part o.header o.count o.bytes.now v bytes image read.1 seen_there (c.lay.ensures.each bytes image quiet left)

pub returns-in-Ok-lay-clause-kept : goal.returns-in-Ok-lay-clause-kept
returns-in-Ok-lay-clause-kept g c = λ v seen kept bytes image quiet left. part_kept c.args.old.now v bytes image seen kept (returns-in-Ok-lay-clause-each g c v seen bytes image quiet left)

pub returns-in-Err-lay-clause-old_refused : goal.returns-in-Err-lay-clause-old_refused
returns-in-Err-lay-clause-old_refused g c = λ refused is.
    let o = c.in-Ok.image in
    let read = c.in-Ok.ensures.read in
    let there = subst (λ (xs : List ℕ). old_refusal xs ≡ Some refused) (sym read.0) is in
    absurd (refused_not_whole o.bytes.now refused (view_in o.header o.count o.bytes.now) there read.1.whole)

pub returns-in-Err-lay-clause-any_moment : goal.returns-in-Err-lay-clause-any_moment
returns-in-Err-lay-clause-any_moment g c = λ v seen bytes quiet.
    let D = g.N.Nvm in
    let start = c.args.nvm.now in
    let end = c.lay.new.nvm in
    let o = c.in-Ok.image in
    let read = c.in-Ok.ensures.read in
    let seen_there = subst (λ (xs : List ℕ). old_view_of xs ≡ Some v) (sym read.0) seen in
    elapses_more (D.clock start) (D.since start) (D.since end) (IsPartlyOver (image_size o.header.banks) (image_of (view_in o.header o.count o.bytes.now)) bytes) (IsPartlyMigrated v bytes) (c.lay.ensures.any_moment bytes quiet)
    (λ image part. old_part o.header o.count o.bytes.now v bytes image read.1 seen_there part)

pub returns-in-Err-lay-clause-each : goal.returns-in-Err-lay-clause-each
returns-in-Err-lay-clause-each g c = λ v seen bytes image quiet left.
    let o = c.in-Ok.image in
    let read = c.in-Ok.ensures.read in
    let seen_there = subst (λ (xs : List ℕ). old_view_of xs ≡ Some v) (sym read.0) seen in
    old_part o.header o.count o.bytes.now v bytes image read.1 seen_there (c.lay.ensures.each bytes image quiet left)

pub returns-in-Err-lay-clause-kept : goal.returns-in-Err-lay-clause-kept
returns-in-Err-lay-clause-kept g c = λ v seen kept bytes image quiet left. part_kept c.args.old.now v bytes image seen kept (returns-in-Err-lay-clause-each g c v seen bytes image quiet left)
