use Rattle.std.proofs.Common.{◌≡◌, ◌≤◌, length}
use Rattle.coll_lang.specs.Made.{members_said}
use Rattle.coll_lang.proofs.Members.{left_over}
use Rattle.coll_lang.proofs.take.members_said.Given as goal

-- all members are judged as what is left is, and there are at most as many as ranks below the next
abbrev pub invariant-loop-word : goal.invariant-loop-word
invariant-loop-word l = record {
  judged : members_said l.ranks l.fn.members ≡ left_over l.ranks l.is_broken l.list.items l.least l.members;
  at_most : length l.list.items ≤ l.least;
  below : l.least ≤ l.ranks;
}
