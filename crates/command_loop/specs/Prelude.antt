-- The words that the clauses of this library's public items cite, re-exported from the libraries
-- that define them. Declares nothing.
pub use Rattle.dwarf_bytes.specs.Words.{section_name, cause_word}
pub use Rattle.dwarf_bytes.specs.Refusals.{at_item}
pub use Rattle.addr_table.specs.Frames.{frames_of, first_site, place_chain}
pub use Rattle.addr_table.specs.Module.{frames_in}
pub use Rattle.addr_table.specs.Steps.{counted}
pub use Rattle.module_map.specs.World.{Loaded, no_modules, AreRising, HoldOnce}
pub use Rattle.module_map.specs.Changes.{is_taken, is_full, place_fault, with_module}
pub use Rattle.module_map.specs.Changes.{IsExtentOf, Loads, Unloads, Moves}
pub use Rattle.module_map.specs.Answers.{asked, frames_at}
pub use Rattle.module_map.specs.Counts.{TakesCompares, CachesAnswer, decoded_after}
pub use Rattle.module_map.specs.Listing.{listing, Listed, list_item}
pub use Rattle.module_map.specs.Words.{map_word}
pub use Rattle.io_streams.specs.Streams.{DeviceState, one_more, failures_after, write_failures}
pub use Rattle.io_streams.specs.Streams.{fetched_of, Grows, Writes}
pub use Rattle.command_line.specs.Numbers.{number}
pub use Rattle.answer_text.specs.Text.{answer_text}
pub use Rattle.io_streams.specs.Words.{fetch_word}
pub use Rattle.command_line.specs.Refusals.{AreOptions, IsRefused}
pub use Rattle.command_loop.specs.Lines.{lines, ended_lines}
pub use Rattle.command_loop.specs.Requests.{parse, requests}
pub use Rattle.command_loop.specs.Commands.{parse_result, request_of}
pub use Rattle.command_loop.specs.Devices.{read_failures_after, write_failures_after}
pub use Rattle.command_loop.specs.Output.{Answers, Served, Stopped, Refused, exe_of, asks}
pub use Rattle.command_loop.specs.Text.{line_word}
