-- The output of an answer.
use Rattle.std.specs.Prelude.{ℕ, ◌==◌, List, [], ◌∷◌, ◌++◌, flat_map, Option, option_map}
use Rattle.std.specs.Prelude.{if◌then◌else◌, codes, decimal}
use Rattle.std.specs.List.{after_last}
use Rattle.std.specs.Option.{option_or}
use Rattle.addr_table.specs.Frames.{Frame}
use Rattle.module_map.specs.Answers.{Answered}
use Rattle.answer_text.specs.Printable.{text_or_unknown}
use Rattle.answer_text.specs.Numerals.{address_text}
use Rattle.io_streams.specs.declared.options.Options.{Options}

-- ---- a frame

-- the name, or the linkage name if it is requested and present
abbrev pub name_of : Options → Frame → Option (List ℕ)
name_of options frame = if options.linkage then option_or frame.linkage frame.name else frame.name

-- the path, or its base name
abbrev pub base_name : List ℕ → List ℕ
base_name path = after_last (λ byte. byte == 47) path

abbrev pub file_of : Options → Option (List ℕ) → Option (List ℕ)
file_of options path = if options.basenames then option_map base_name path else path

abbrev pub after_name : Options → List ℕ
after_name options = if options.pretty then codes " at " else codes "\n"

abbrev pub name_text : Options → Frame → List ℕ
name_text options frame =
    if options.functions then text_or_unknown (name_of options frame) ++ after_name options else []

abbrev pub place_text : Options → Option (List ℕ) → ℕ → List ℕ
place_text options path line = text_or_unknown (file_of options path) ++ (58 ∷ decimal line
    ++ 10 ∷ [])

abbrev pub frame_text : Options → Frame → List ℕ
frame_text options frame = name_text options frame ++ place_text options frame.path frame.line

-- ---- an answer

abbrev pub before_later : Options → List ℕ
before_later options = if options.pretty then codes " (inlined by) " else []

abbrev pub later_text : Options → Frame → List ℕ
later_text options frame = before_later options ++ frame_text options frame

abbrev pub nothing_text : Options → List ℕ
nothing_text options =
    if options.functions then (if options.pretty then codes "?? ??:0\n" else codes "??\n??:0\n")
    else codes "??:0\n"

-- the innermost frame, followed by the others if all are requested
abbrev pub frames_text : Options → List Frame → List ℕ
frames_text options [] = nothing_text options
frames_text options (frame ∷ frames) =
    frame_text options frame ++ (if options.inlines then flat_map (later_text options) frames else
    [])

abbrev pub after_address : Options → List ℕ
after_address options = if options.pretty then codes ": " else codes "\n"

abbrev pub heading_text : Options → ℕ → List ℕ
heading_text options address =
    if options.addresses then address_text address ++ after_address options else []

-- the answer for an address
unfoldable pub answer_text : Options → Answered → List ℕ
answer_text options answer =
    heading_text options answer.address ++ frames_text options answer.frames
