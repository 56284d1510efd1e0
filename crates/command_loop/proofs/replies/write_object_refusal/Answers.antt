use Rattle.std.proofs.Common.{append_assoc}
use Rattle.command_loop.proofs.replies.write_object_refusal.Goals as goal

pub returns-clause-bytes : goal.returns-clause-bytes
returns-clause-bytes g c =
    let h =
    rw (
      c.as_bytes-section.ensures.value,
      c.name.ensures,
      c.as_bytes-cause.ensures.value,
      c.word.ensures,
      c.as_bytes-at.ensures.value,
      c.format.ensures.text,
    ) at c.write_texts.ensures.bytes in
    simp append_assoc h
