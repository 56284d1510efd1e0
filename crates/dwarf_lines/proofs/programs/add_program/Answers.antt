use Rattle.std.proofs.Common.{◌≡◌, length, refl, vec_len, rules}
use Rattle.dwarf_lines.specs.Private.Readers.{sections_of}
use Rattle.std.proofs.lemmas.List.{map-append}
use Rattle.dwarf_lines.specs.Private.Stored.{header_in, tables_in}
use Rattle.dwarf_lines.proofs.SectionPrograms.ProgramTurns.{program-of}
use Rattle.dwarf_lines.proofs.programs.add_program.Goals as goal

pub returns : goal.returns
returns c =
    let header = header_in c.in_ok-header.header in
    let files : c.len-2.result ≡ length header.files = search rules in
    let p = program-of (sections_of c.args.sections) (vec_len c.args.programs.now) c.args.place
    c.len.result c.len-2.result header c.args.rows.now.items c.add_rows.new.rows.items
    c.len.ensures files c.in_ok-header.ensures.gives c.in_ok-add_rows.ensures in (
      record {
        offset = c.args.place;
        directories = header.directories;
        files = header.files;
        rows =
            p.0;
        past = header.past;
      },
      p.1,
      refl,
      p.2,
      rw c.in_ok-push.ensures.items
          (map-append tables_in c.args.programs.now.items _),
    )
