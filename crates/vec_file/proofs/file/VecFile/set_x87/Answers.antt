use Rattle.std.proofs.Common.{◌<◌, ◌∙◌, ap, slice_index}
use Rattle.std.proofs.lemmas.List.Elements.{All-from_get_or, All-same}
use Rattle.vec_file.proofs.file.VecFile.set_x87.Goals as goal

pub invariant_of-self : goal.invariant_of-self
invariant_of-self c =
    let limit = c.self.invariant in
    let put = c.copy_from_slice.ensures in
    record {
      vectors = limit.vectors;
      vector = limit.vector;
      masks = limit.masks;
      mask = limit.mask;
      mxcsr = limit.mxcsr;
      x87_len = put.len ∙ limit.x87_len;
      x87_bytes = All-same (λ byte. byte < 256) c.copy_from_slice.new.self c.args.v.now put.after
          (All-from_get_or (λ byte. byte < 256) c.args.v.now 0 (λ i h. c.fits-v i));
      x87_zero = ap (λ bytes. slice_index bytes 5) put.after ∙ c.requires;
      restored = limit.restored;
    }
