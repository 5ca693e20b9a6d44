use Rattle.std.proofs.Common.{◌≡◌, ◌∙◌, ap, refl, arith, length}
use Rattle.superblock_core.specs.Superblock.{superblock_of}
use Rattle.superblock_core.proofs.Fields.{taken_whole}
use Rattle.superblock_core.proofs.ReadsBack.{IsWritable, superblock_of-bytes, superblock_bytes-pieces, added}
use Rattle.superblock_core.proofs.superblock.Superblock.encode.Goals as goal

pub returns-clause-bytes : goal.returns-clause-bytes
returns-clause-bytes c =
    let long : length c.put-4.new.out ≡ 512 = omega arith in
    taken_whole c.put-4.new.out 512 long
    ∙ added _ _ _ _ c.put-4.ensures (added _ _ _ _ c.put-3.ensures (added _ _ _ _ c.put-2.ensures
    (added _ _ _ _ c.put_u32-8.ensures.bytes (added _ _ _ _ c.put_u32-7.ensures.bytes (added _ _ _ _ c.put_u32-6.ensures.bytes
    (added _ _ _ _ c.put_u32-5.ensures.bytes (added _ _ _ _ c.put_u32-4.ensures.bytes (added _ _ _ _ c.put_u32-3.ensures.bytes
    (added _ _ _ _ c.put_u32-2.ensures.bytes (added _ _ _ _ c.put.ensures c.put_u32.ensures.bytes))))))))))
    ∙ superblock_bytes-pieces c.args.self.now _ _ _ _ _ _ _ _ _ _ _ _ refl c.field.ensures.text refl refl refl refl refl refl refl c.field-2.ensures.field c.field-3.ensures.field refl

pub returns-clause-reads_back : goal.returns-clause-reads_back
returns-clause-reads_back c =
    let writable : IsWritable c.args.self.now = record {
      id = c.field.ensures.fits;
      sequence = c.put_u32-2.ensures.fits;
      flags = c.requires;
      block = c.put_u32-5.ensures.fits;
      zone_blocks = c.put_u32-6.ensures.fits;
      zones = c.put_u32-7.ensures.fits;
      finish_threshold = c.put_u32-8.ensures.fits;
      aux_path = c.field-2.ensures.fits;
      version_text = c.field-3.ensures.fits;
    } in
    ap superblock_of (returns-clause-bytes c) ∙ superblock_of-bytes c.args.self.now writable
