use Rattle.dwarf_bytes.proofs.Contents.ContentLaws.{content-encoded}
use Rattle.dwarf_bytes.proofs.Contents.ContentEncodings.{content-again}
use Rattle.dwarf_bytes.proofs.laws.content_is_encoded.Goals as goal

pub returns : goal.returns
returns c layout format bytes at content next = (
  content-encoded layout format bytes at content next,
  content-again layout format bytes at
      content next,
)
