-- A refusal leaves all as it was; else the image is written over what was read.
use Rattle.std.proofs.Common.{rules, sym, subst, arith, ⊎_elim, ◌≡◌, ℕ, Option, List, Some}
use Rattle.edr_device.specs.Device.{IsQuiet, StillTells}
use Rattle.edr_device.specs.Lent.{LeavesMeanwhile}
use Rattle.edr_device.proofs.SettlingLemmas.{stays_quiet}
use Rattle.edr_image.specs.Image.{image_size}
use Rattle.edr_banks.specs.Laying.{IsPartlyOver}
use Rattle.edr_banks.proofs.FirstByteLemmas.{elapses_after, not_read, shown_first}
use Rattle.edr_banks.proofs.MarkingLemmas.{left_part}
use Rattle.edr_banks.proofs.overlay.lay.Goals as goal

pub returns-then-size-needed : goal.returns-then-size-needed
returns-then-size-needed g c =
    let D = g.N.Nvm in
    let start = c.args.nvm.now in
    let full = image_size (g.I.Image.bank_count c.args.image.now) in
    let target = g.I.Image.bytes c.args.image.now in record {
      lent = search rules;
      later = search rules;
      short = search rules;
      sizes = search rules;
      formatted = search rules;
      fault = search rules;
      not_formatted = search rules;
      room = search rules;
      refused = search rules;
      magic_stays = search rules;
      done = search rules;
      any_moment = search rules;
      each = λ bytes image quiet left. left_part full target bytes (D.content start) (D.settled start) image (omega arith) quiet (g.met.N.Nvm.only_now start image left);
    }

pub returns-in_err-read : goal.returns-in_err-read
returns-in_err-read g c =
    let D = g.N.Nvm in
    let start = c.args.nvm.now in
    let full = image_size (g.I.Image.bank_count c.args.image.now) in
    let target = g.I.Image.bytes c.args.image.now in record {
      lent = search rules;
      later = search rules;
      short = search rules;
      sizes = search rules;
      formatted = search rules;
      fault = search rules;
      not_formatted = search rules;
      room = search rules;
      refused = search rules;
      magic_stays = search rules;
      done = search rules;
      any_moment = search rules;
      each = λ bytes image quiet left. left_part full target bytes (D.content start) (D.settled start) image (omega arith) quiet (g.met.N.Nvm.only_now start image (c.read.ensures.stays.nothing_else (D.clock start) image left));
    }

pub returns-then-is_none : goal.returns-then-is_none
returns-then-is_none g c =
    let D = g.N.Nvm in
    let start = c.args.nvm.now in
    let full = image_size (g.I.Image.bank_count c.args.image.now) in
    let target = g.I.Image.bytes c.args.image.now in record {
      lent = search rules;
      later = search rules;
      short = search rules;
      sizes = search rules;
      formatted = search rules;
      fault = search rules;
      not_formatted = search rules;
      room = search rules;
      refused = search rules;
      magic_stays = search rules;
      done = search rules;
      any_moment = search rules;
      each = λ bytes image quiet left. left_part full target bytes (D.content start) (D.settled start) image (omega arith) quiet (g.met.N.Nvm.only_now start image (c.read.ensures.stays.nothing_else (D.clock start) image left));
    }

pub returns : goal.returns
returns g c =
    let D = g.N.Nvm in
    let start = c.args.nvm.now in
    let mid = c.read.new.self in
    let end = c.write_image.new.nvm in
    let full = image_size (g.I.Image.bank_count c.args.image.now) in
    let target = g.I.Image.bytes c.args.image.now in
    let piece = c.read.new.into in
    let shows = λ (bytes : List ℕ) (told : D.content start ≡ Some bytes). shown_first piece bytes (D.content start) told c.in_ok-read.ensures.bytes in
    let still = λ (bytes : List ℕ) (quiet : IsQuiet (D.content start) (D.settled start) bytes). stays_quiet bytes (D.content start) (D.content mid) (D.settled start) (D.settled mid) (D.since start) (D.since mid) quiet c.read.ensures.stays in
    let moments : LeavesMeanwhile D (IsPartlyOver full target) start end = λ bytes quiet.
    elapses_after (D.clock start) (D.clock mid) (D.content start) (D.content mid) (D.settled start) (D.settled mid) (D.since start) (D.since mid) (D.since end) (IsPartlyOver full target bytes) c.read.ensures.stays c.read.ensures.clock
    (c.write_image.ensures.any_moment bytes (still bytes quiet) (sym (shows bytes quiet.0 0 (omega arith)))) in record {
      lent = record {
        size = search rules;
        device = g.met.N.Nvm.goes_on_again start mid end c.read.ensures.device c.write_image.ensures.lent.device;
        tells = subst (λ (before : Option (List ℕ)). StillTells before (D.content end)) c.read.ensures.stays.same_content c.write_image.ensures.lent.tells;
        later = omega (arith, c.read.ensures.cause.later, c.write_image.ensures.lent.cause.later);
      };
      later = search rules;
      short = search rules;
      sizes = search rules;
      formatted = search rules;
      fault = search rules;
      not_formatted = search rules;
      room = search rules;
      refused = search rules;
      magic_stays = λ bytes told stands. absurd (not_read piece bytes c.not_magic.result c.is_none.result (omega arith) (shows bytes told) c.not_magic.ensures c.is_none.ensures c.if-is_none.false stands);
      done = λ bytes quiet. c.in_ok-write_image.ensures.done bytes (still bytes quiet) (sym (shows bytes quiet.0 0 (omega arith)));
      any_moment = moments;
      each = λ bytes image quiet left. ⊎_elim
          (λ (before : D.since start (D.clock start) image). left_part full target bytes (D.content start) (D.settled start) image (omega arith) quiet (g.met.N.Nvm.only_now start image before))
          (λ (meanwhile : IsPartlyOver full target bytes image). meanwhile)
          ((moments bytes quiet).nothing_else (D.clock start) image (omega arith) left);
    }

pub returns-in_err-write_image : goal.returns-in_err-write_image
returns-in_err-write_image g c =
    let D = g.N.Nvm in
    let start = c.args.nvm.now in
    let mid = c.read.new.self in
    let end = c.write_image.new.nvm in
    let full = image_size (g.I.Image.bank_count c.args.image.now) in
    let target = g.I.Image.bytes c.args.image.now in
    let piece = c.read.new.into in
    let shows = λ (bytes : List ℕ) (told : D.content start ≡ Some bytes). shown_first piece bytes (D.content start) told c.in_ok-read.ensures.bytes in
    let still = λ (bytes : List ℕ) (quiet : IsQuiet (D.content start) (D.settled start) bytes). stays_quiet bytes (D.content start) (D.content mid) (D.settled start) (D.settled mid) (D.since start) (D.since mid) quiet c.read.ensures.stays in
    let moments : LeavesMeanwhile D (IsPartlyOver full target) start end = λ bytes quiet.
    elapses_after (D.clock start) (D.clock mid) (D.content start) (D.content mid) (D.settled start) (D.settled mid) (D.since start) (D.since mid) (D.since end) (IsPartlyOver full target bytes) c.read.ensures.stays c.read.ensures.clock
    (c.write_image.ensures.any_moment bytes (still bytes quiet) (sym (shows bytes quiet.0 0 (omega arith)))) in record {
      lent = record {
        size = search rules;
        device = g.met.N.Nvm.goes_on_again start mid end c.read.ensures.device c.write_image.ensures.lent.device;
        tells = subst (λ (before : Option (List ℕ)). StillTells before (D.content end)) c.read.ensures.stays.same_content c.write_image.ensures.lent.tells;
        later = omega (arith, c.read.ensures.cause.later, c.write_image.ensures.lent.cause.later);
      };
      later = search rules;
      short = search rules;
      sizes = search rules;
      formatted = search rules;
      fault = search rules;
      not_formatted = search rules;
      room = search rules;
      refused = search rules;
      magic_stays = λ bytes told stands. absurd (not_read piece bytes c.not_magic.result c.is_none.result (omega arith) (shows bytes told) c.not_magic.ensures c.is_none.ensures c.if-is_none.false stands);
      done = search rules;
      any_moment = moments;
      each = λ bytes image quiet left. ⊎_elim
          (λ (before : D.since start (D.clock start) image). left_part full target bytes (D.content start) (D.settled start) image (omega arith) quiet (g.met.N.Nvm.only_now start image before))
          (λ (meanwhile : IsPartlyOver full target bytes image). meanwhile)
          ((moments bytes quiet).nothing_else (D.clock start) image (omega arith) left);
    }
