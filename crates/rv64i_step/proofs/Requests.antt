-- When a vCPU asks for something, and that the outcomes of a fetch exclude each other.
use Rattle.std.proofs.Common.{◌≡◌, ◌≢◌, Option, Some, None, Result, Ok, Err, sym, ◌∙◌, ap, subst}
use Rattle.std.specs.Prelude.{IfSome}
use Rattle.ram_block.specs.AddressMap.{located}
use Rattle.ram_block.specs.Shape.{ShapeData}
use Rattle.ram_block.specs.declared.cause.Cause.{Cause}
use Rattle.ram_block.specs.declared.place.Place.{Place}
use Rattle.ram_block.specs.declared.place.Place.TheVariants.{Ram, Serial, Timer}
use Rattle.ram_block.specs.declared.place.Way.TheVariants as ways
use Rattle.ram_block.specs.declared.place.Width.TheVariants.{Four}
use Rattle.rv64i_decode.specs.declared.instr.Instr.{Instr}
use Rattle.rv64i_decode.specs.declared.instr.Instr.TheVariants.{Load, Store, Amo}
use Rattle.rv64i_step.specs.Access.{AccessesMemory}
use Rattle.rv64i_step.specs.Event.{request_of, request_in, running_request, access_of, fetch_at}
use Rattle.rv64i_step.specs.Laws.{AsksWhileRunning, OutcomesDiffer}
use Rattle.rv64i_step.specs.Outcome.{HaltsWith, AwaitsAccess, Finishes}
use Rattle.rv64i_step.specs.Vcpu.{VcpuData}
use Rattle.rv64i_step.specs.declared.access.Access.{Access}
use Rattle.rv64i_step.specs.declared.request.Request.TheVariants.{Nothing}
use Rattle.rv64i_step.specs.declared.state.State.{State}
use Rattle.rv64i_step.specs.declared.state.State.TheVariants.{Running, Halted}

fetch_asks : (r : Result Place Cause) → fetch_at r ≢ Nothing
fetch_asks (Ok (Ram page off)) e = cc
fetch_asks (Ok (Serial reg)) e = cc
fetch_asks (Ok (Timer reg)) e = cc
fetch_asks (Err cause) e = cc

access_asks : (v : VcpuData) (place : Place) (instr : Instr) → AccessesMemory instr → access_of v place instr ≢ Nothing
access_asks v place (Load op rd rs1 off) kind e = cc
access_asks v place (Store op rs1 rs2 off) kind e = cc
access_asks v place (Amo op wide rd rs1 rs2 order) kind e = cc
access_asks v place _ kind e = absurd kind

-- a vCPU that runs asks for a fetch or for its access
asks : (shape : ShapeData) (v : VcpuData) (pending : Option Access) → IfSome pending (λ access. AccessesMemory access.instr) →
    running_request shape v pending ≢ Nothing
asks shape v None kind = fetch_asks (located shape v.pc Four ways.Fetch)
asks shape v (Some access) kind = access_asks v access.place access.instr kind

pub running_asks : (shape : ShapeData) (v : VcpuData) → v.state ≡ Running → IfSome v.pending (λ access. AccessesMemory access.instr) →
    request_of shape v ≢ Nothing
unfolding request_of
running_asks shape v runs kind =
    subst (λ (s : State). request_in s (running_request shape v v.pending) ≢ Nothing) (sym runs) (asks shape v v.pending kind)

pub halted_asks_nothing : (shape : ShapeData) (v : VcpuData) (cause : Cause) → v.state ≡ Halted cause → request_of shape v ≡ Nothing
unfolding request_of
halted_asks_nothing shape v cause halted =
    ap (λ s. request_in s (running_request shape v v.pending)) halted

pub asks_while_running : AsksWhileRunning
asks_while_running = record { halted = halted_asks_nothing; running = running_asks }

-- no two outcomes come together
halts_or_awaits : (v after : VcpuData) (cause : Cause) (access : Access) → HaltsWith v after cause → AwaitsAccess v after access → ⊥
halts_or_awaits v after cause access halts awaits =
    let e : None ≡ Some access = sym halts.pending ∙ awaits.pending in cc

halts_or_finishes : (v after : VcpuData) (cause : Cause) → v.state ≡ Running → HaltsWith v after cause → Finishes v after → ⊥
halts_or_finishes v after cause runs halts finishes =
    let e : Running ≡ Halted cause = sym runs ∙ sym finishes.state ∙ halts.state in cc

awaits_or_finishes : (v after : VcpuData) (access : Access) → AwaitsAccess v after access → Finishes v after → ⊥
awaits_or_finishes v after access awaits finishes =
    let e : None ≡ Some access = sym finishes.pending ∙ awaits.pending in cc

pub outcomes_differ : OutcomesDiffer
outcomes_differ = record { halts_or_awaits = halts_or_awaits; halts_or_finishes = halts_or_finishes; awaits_or_finishes = awaits_or_finishes }
