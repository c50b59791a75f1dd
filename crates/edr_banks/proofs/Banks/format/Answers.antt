-- What a laying of a new image leaves.
use Rattle.std.proofs.Common.{refl, arith, length, ◌≤◌}
use Rattle.edr_device.proofs.SettlingLemmas.{elapses_more}
use Rattle.edr_image.specs.declared.Header.{Header}
use Rattle.edr_image.specs.Image.{image_size, new_image}
use Rattle.edr_banks.specs.Formatting.{IsPartlyFormatted, formatted_image}
use Rattle.edr_banks.specs.Laying.{IsPartlyOver}
use Rattle.edr_banks.proofs.KeptNewLemmas.{kept_part}
use Rattle.edr_banks.proofs.NewImageLemmas.{new_image_whole}
use Rattle.edr_banks.proofs.NewViewLemmas.{formatted_new, formatted_part, room_done}
use Rattle.edr_banks.proofs.Banks.format.Goals as goal

pub lay-requires-clause-whole : goal.lay-requires-clause-whole
lay-requires-clause-whole g c = new_image_whole (record { banks = c.args.banks; choice = c.args.choice })

pub returns-clause-laid : goal.returns-clause-laid
returns-clause-laid g c =
    let D = g.N.Nvm in
    let start = c.args.nvm.now in
    let end = c.lay.new.nvm in
    let l = c.lay.ensures in
    let h : Header = record { banks = c.args.banks; choice = c.args.choice } in record {
      lent = l.lent;
      later = l.later;
      short = l.short;
      sizes = l.sizes;
      formatted = l.formatted;
      fault = l.fault;
      not_formatted = l.not_formatted;
      room = l.room;
      refused = l.refused;
      magic_stays = l.magic_stays;
      done = room_done c.lay.result l.room l.done (λ room done. λ bytes quiet.
          let wide : image_size c.args.banks ≤ length bytes = omega (arith, g.met.N.Nvm.told_size start bytes quiet.0, room) in
          (formatted_image h bytes, done bytes quiet, formatted_new h bytes (formatted_image h bytes) c.requires.from c.requires.to wide refl));
      any_moment = λ bytes quiet.
          elapses_more (D.clock start) (D.since start) (D.since end) (IsPartlyOver (image_size h.banks) (new_image h) bytes) (IsPartlyFormatted h bytes) (l.any_moment bytes quiet)
          (λ image part. formatted_part h bytes image c.requires.from c.requires.to part);
      each = λ bytes image quiet left. formatted_part h bytes image c.requires.from c.requires.to (l.each bytes image quiet left);
    }

pub returns-clause-kept : goal.returns-clause-kept
returns-clause-kept g c = λ bytes image quiet kept left.
    let h : Header = record { banks = c.args.banks; choice = c.args.choice } in
    kept_part h bytes image (formatted_part h bytes image c.requires.from c.requires.to (c.lay.ensures.each bytes image quiet left)) kept
