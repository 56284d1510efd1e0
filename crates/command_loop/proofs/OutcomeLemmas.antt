-- The outcome of a request.
use Rattle.std.proofs.Common.{◌≡◌, ℕ, Bool, List, sym, ◌∙◌, ap}
use Rattle.std.specs.Prelude.{Option, None, Some, Result, Ok, Err}
use Rattle.module_map.specs.declared.asked.Asked as found
use Rattle.module_map.specs.declared.faults.MapFault.{MapFault}
use Rattle.module_map.specs.declared.faults.Extent.{Extent}
use Rattle.module_map.specs.World.{World, Loaded, no_modules, start_of, end_of, moved_to}
use Rattle.module_map.specs.Changes.{load_fault, with_module, move_fault, IsMoved}
use Rattle.module_map.specs.Answers.{asked}
use Rattle.io_streams.specs.declared.faults.ExeFault.{ExeFault}
use Rattle.io_streams.specs.declared.faults.ExeFault.TheVariants.{NotLoaded}
use Rattle.command_loop.specs.Output.{start_world_with}
use Rattle.command_loop.specs.Replies.{answer_at, load_step, moved_step, move_step, overlap_name}
use Rattle.command_loop.specs.Replies.Reply.{Refused, LoadedAt, MovedTo, Answered}

pub refused-world : (old new : World) (m : Loaded) (short : Bool) (fault : MapFault)
    → load_fault old m short ≡ Some fault → new ≡ old
    → new ≡ (load_step old m (load_fault old m short)).world
refused-world old new m short fault e same =
    same ∙ sym (ap (λ (z : Option MapFault). (load_step old m z).world) e)

pub refused-reply : (old new : World) (m : Loaded) (short : Bool) (fault : MapFault)
    → load_fault old m short ≡ Some fault → new ≡ old
    → Refused fault (overlap_name new fault) ≡ (load_step old m (load_fault old m short)).reply
refused-reply old new m short fault e same =
    ap (λ (z : World). Refused fault (overlap_name z fault)) same
    ∙ sym (ap (λ (z : Option MapFault). (load_step old m z).reply) e)

pub accepted-world : (old new : World) (m : Loaded) (short : Bool) → load_fault old m short ≡ None
    → new ≡ with_module old m
    → new ≡ (load_step old m (load_fault old m short)).world
accepted-world old new m short e is = is
    ∙ sym (ap (λ (z : Option MapFault). (load_step old m z).world) e)

pub accepted-reply : (old : World) (m : Loaded) (short : Bool) (low high : ℕ)
    → load_fault old m short ≡ None → low ≡ start_of m
    → high ≡ end_of m
    → LoadedAt m.name low high ≡ (load_step old m (load_fault old m short)).reply
accepted-reply old m short low high e l h =
    ap (λ (z : ℕ). LoadedAt m.name z high) l ∙ ap (λ (z : ℕ). LoadedAt m.name (start_of m) z) h
    ∙ sym
    (ap (λ (z : Option MapFault). (load_step old m z).reply) e)

-- a move that is done
pub moved-world : (old new : World) (name : List ℕ) (m : Option Loaded) (base : ℕ) (extent : Extent)
    → move_fault m old base ≡ None
    → IsMoved old m base extent new
    → new ≡ (move_step old name m base).world
moved-world old new name None base extent e is = absurd is
moved-world old new name (Some m) base extent e is =
    is.1 ∙ sym (ap (λ (z : Option MapFault). (moved_step old name z (Some m) base).world) e)

pub moved-reply : (old new : World) (name : List ℕ) (m : Option Loaded) (base : ℕ) (extent : Extent)
    → move_fault m old base ≡ None
    → IsMoved old m base extent new
    → MovedTo name extent.low extent.high ≡ (move_step old name m base).reply
moved-reply old new name None base extent e is = absurd is
moved-reply old new name (Some m) base extent e is =
    ap (λ (z : ℕ). MovedTo name z extent.high) is.0.0
    ∙ ap (λ (z : ℕ). MovedTo name (start_of (moved_to base m)) z) is.0.1
    ∙ sym (ap (λ (z : Option MapFault). (moved_step old name z (Some m) base).reply) e)

-- the result of an ask
pub asked-address : (world : World) (address : ℕ) (result : found.Asked)
    → result ≡ asked world address → result.address ≡ address
unfolding asked
asked-address world address result e = ap (λ (z : found.Asked). z.address) e

pub asked-current : (old new : World) (address : ℕ) (result : found.Asked) → new ≡ old
    → result ≡ asked old address
    → result ≡ asked new result.address
asked-current old new address result same e =
    e ∙ ap (λ (z : World). asked z address) (sym same)
    ∙ ap (asked new) (sym (asked-address old address result e))

pub asked-reply : (old new : World) (address : ℕ) (result : found.Asked) → new ≡ old
    → result ≡ asked old address
    → Answered (answer_at new result.address) ≡ Answered (answer_at old address)
asked-reply old new address result same e =
    ap (λ (z : World). Answered (answer_at z result.address)) same
    ∙ ap (λ (z : ℕ). Answered (answer_at old z))
    (asked-address old address result e)

-- the object of the command line
abbrev pub ok_world : World → Result World ExeFault
ok_world world = Ok world

pub exe-refused : (old : World) (m : Loaded) (short : Bool) (fault : MapFault) → old ≡ no_modules
    → load_fault old m short ≡ Some fault
    → start_world_with m (load_fault no_modules m short) ≡ Err (NotLoaded fault)
exe-refused old m short fault same e = ap (start_world_with m)
    (ap (λ (z : World). load_fault z m short) (sym same) ∙ e)

pub exe-loaded : (old new : World) (m : Loaded) (short : Bool) → old ≡ no_modules
    → load_fault old m short ≡ None
    → new ≡ with_module old m → start_world_with m (load_fault no_modules m short) ≡ Ok new
exe-loaded old new m short same e is =
    ap (start_world_with m) (ap (λ (z : World). load_fault z m short) (sym same) ∙ e)
    ∙ ap (λ (z : World). ok_world (with_module z m)) (sym same) ∙ ap (λ (z : World). ok_world z)
    (sym is)
