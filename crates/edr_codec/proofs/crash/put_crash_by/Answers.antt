use Rattle.std.proofs.Common.{◌∙◌, ap, arith}
use Rattle.edr_record.specs.Fields.{crash_part_of}
use Rattle.edr_image.specs.PartBytes.{crash_bytes_by}
use Rattle.edr_codec.proofs.PutLemmas.{crash-put}
use Rattle.edr_codec.proofs.crash.put_crash_by.Goals as goal

pub returns : goal.returns
returns c =
    crash-put c.args.form.now (crash_part_of c.crash.inside) c.put_at.new.out c.put_all.new.out c.put_all-2.new.out c.put_extreme.new.out c.put_extreme-2.new.out c.put_at-2.new.out c.put_at-3.new.out c.put_at-4.new.out c.put_all-3.new.out c.put_zeros.new.out
    c.crash.invariant (omega arith) c.put_at.ensures c.put_all.ensures c.put_all-2.ensures c.put_extreme.ensures c.put_extreme-2.ensures c.put_at-2.ensures c.put_at-3.ensures c.put_at-4.ensures c.put_all-3.ensures c.put_zeros.ensures
    ∙ ap (crash_bytes_by c.args.form.now) c.crash.view_is
