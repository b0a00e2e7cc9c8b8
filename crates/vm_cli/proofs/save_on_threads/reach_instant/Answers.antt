-- A phase with room ends at rest.
use Rattle.vm_cli.proofs.save_on_threads.reach_instant.Goals as goal

pub returns-in-Ok : goal.returns-in-Ok
returns-in-Ok g c =
    let ran = c.in-Ok.ensures.phase in
    let serves = c.an_event_keeps_what_its_laws_need.ensures.machine c.args.machine c.clock-before.ensures.limits in
    record {
      instant = record {
        ordered = tt;
        ran = ran.ran;
        shape = (c.an_event_leaves_the_rest.ensures.run _ _ _ serves ran.ran).shape;
        phase = ran.phase;
        rest = c.a_phase_with_room_ends_at_rest.ensures _ _ _ _ c.requires.rest c.requires.room c.clock-before.ensures.limits.vcpus ran.phase ran.ran;
        limits = ran.limits;
      };
    }
