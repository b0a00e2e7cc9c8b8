use Rattle.std.proofs.Common.{◌≡◌, ◌<◌, All, take, drop}
use Rattle.order_log.specs.Reading.{halves, members_name}
use Rattle.order_log.proofs.members.push_members.Given as goal

-- the members so far are read and name vCPUs, and what is left to look at goes on from here
abbrev pub invariant-loop-place : goal.invariant-loop-place
invariant-loop-place l = record {
  members : l.order.members ≡ take l.place (halves l.bytes);
  room : l.order.room ≡ l.initial.order.room;
  named : All (λ k. k < l.vcpus) l.order.members;
  answer : members_name l.vcpus 0 (take l.count (halves l.bytes)) ≡ members_name l.vcpus l.place (drop l.place (take l.count (halves l.bytes)));
}
