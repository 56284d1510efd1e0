use Rattle.command_loop.proofs.replies.write_map_refusal.Goals as goal

pub returns-in-Object-clause-bytes : goal.returns-in-Object-clause-bytes
returns-in-Object-clause-bytes g c = rw c.in-Object.is c.write_object_refusal.ensures.bytes

pub returns-in-Overlap-clause-bytes : goal.returns-in-Overlap-clause-bytes
returns-in-Overlap-clause-bytes g c =
    rw (c.in-Overlap.is, ← c.name_at.ensures) c.write_overlap.ensures.bytes
