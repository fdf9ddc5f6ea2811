-- By `Whole`.
use Rattle.plan_choice.proofs.ranks.Whole.{all_made, counters_all, descriptors_all, done_made, first_made, first_room, go_made, go_room}
use Rattle.plan_choice.proofs.ranks.Whole.{none_bound, steps_room, still_wide, two_made, words_room}
use Rattle.plan_choice.proofs.ranks.installing.make_all.Goals as goal

pub make_counter-requires-clause-all : goal.make_counter-requires-clause-all
make_counter-requires-clause-all c =
    (first_made c.args.kinds.now c.args.nic.now c.alloc_index.new.nic c.alloc_index.new.nic c.alloc_index.new.nic c.args.kept.now
    c.args.kept.now c.args.kept.now c.requires.none c.requires.all c.in_ok-alloc_index.ensures).all

pub make_counter-requires-clause-room : goal.make_counter-requires-clause-room
make_counter-requires-clause-room c =
    first_room c.args.kinds.now c.args.nic.now c.alloc_index.new.nic c.alloc_index.new.nic c.alloc_index.new.nic c.args.kept.now
    c.args.kept.now c.args.kept.now c.requires.none c.requires.all c.in_ok-alloc_index.ensures

pub make_counter-requires-2-clause-all : goal.make_counter-requires-2-clause-all
make_counter-requires-2-clause-all c =
    (go_made c.args.kinds.now c.args.nic.now c.alloc_index.new.nic c.make_counter.new.nic c.make_counter.new.nic c.args.kept.now
    c.make_counter.new.kept c.make_counter.new.kept c.requires.none c.requires.all c.in_ok-alloc_index.ensures
    c.in_ok-make_counter.ensures).all

pub make_counter-requires-2-clause-room : goal.make_counter-requires-2-clause-room
make_counter-requires-2-clause-room c =
    go_room c.args.kinds.now c.args.nic.now c.alloc_index.new.nic c.make_counter.new.nic c.make_counter.new.nic c.args.kept.now
    c.make_counter.new.kept c.make_counter.new.kept c.requires.none c.requires.all c.in_ok-alloc_index.ensures
    c.in_ok-make_counter.ensures

pub make_steps-requires-clause-two : goal.make_steps-requires-clause-two
make_steps-requires-clause-two c =
    two_made c.args.kinds.now c.args.nic.now c.alloc_index.new.nic c.make_counter.new.nic c.make_counter-2.new.nic c.args.kept.now
    c.make_counter.new.kept c.make_counter-2.new.kept c.requires.none c.requires.all c.in_ok-alloc_index.ensures
    c.in_ok-make_counter.ensures c.in_ok-make_counter-2.ensures

pub make_steps-requires-clause-none : goal.make_steps-requires-clause-none
make_steps-requires-clause-none c =
    none_bound c.args.kinds.now c.args.nic.now c.alloc_index.new.nic c.make_counter.new.nic c.make_counter-2.new.nic c.args.kept.now
    c.make_counter.new.kept c.make_counter-2.new.kept c.requires.none c.requires.all c.in_ok-alloc_index.ensures
    c.in_ok-make_counter.ensures c.in_ok-make_counter-2.ensures

pub make_steps-requires-clause-all : goal.make_steps-requires-clause-all
make_steps-requires-clause-all c =
    (done_made c.args.kinds.now c.args.nic.now c.alloc_index.new.nic c.make_counter.new.nic c.make_counter-2.new.nic c.args.kept.now
    c.make_counter.new.kept c.make_counter-2.new.kept c.requires.none c.requires.all c.in_ok-alloc_index.ensures
    c.in_ok-make_counter.ensures c.in_ok-make_counter-2.ensures).all

pub make_steps-requires-clause-room : goal.make_steps-requires-clause-room
make_steps-requires-clause-room c =
    steps_room c.args.kinds.now c.args.nic.now c.alloc_index.new.nic c.make_counter.new.nic c.make_counter-2.new.nic c.args.kept.now
    c.make_counter.new.kept c.make_counter-2.new.kept c.requires.none c.requires.all c.in_ok-alloc_index.ensures
    c.in_ok-make_counter.ensures c.in_ok-make_counter-2.ensures

pub make_own_words-requires-clause-all : goal.make_own_words-requires-clause-all
make_own_words-requires-clause-all c = c.in_ok-make_steps.ensures.all

pub make_own_words-requires-clause-room : goal.make_own_words-requires-clause-room
make_own_words-requires-clause-room c =
    words_room c.args.kinds.now c.args.nic.now c.alloc_index.new.nic c.make_counter.new.nic c.make_counter-2.new.nic c.args.kept.now
    c.make_counter.new.kept c.make_counter-2.new.kept c.requires.none c.requires.all c.in_ok-alloc_index.ensures
    c.in_ok-make_counter.ensures c.in_ok-make_counter-2.ensures c.make_steps.new.nic c.make_steps.new.kept
    c.in_ok-make_steps.ensures

pub post_all-requires-clause-wide : goal.post_all-requires-clause-wide
post_all-requires-clause-wide c =
    still_wide c.args.kinds.now c.args.nic.now c.alloc_index.new.nic c.make_counter.new.nic c.make_counter-2.new.nic c.args.kept.now
    c.make_counter.new.kept c.make_counter-2.new.kept c.requires.none c.requires.all c.in_ok-alloc_index.ensures
    c.in_ok-make_counter.ensures c.in_ok-make_counter-2.ensures c.make_steps.new.nic c.make_steps.new.kept
    c.in_ok-make_steps.ensures c.args.rank c.make_own_words.new.nic c.make_own_words.new.kept c.in_ok-make_own_words.ensures
    c.requires.wide

pub post_all-requires-clause-all : goal.post_all-requires-clause-all
post_all-requires-clause-all c = c.in_ok-make_own_words.ensures.all

pub post_all-requires-clause-counters : goal.post_all-requires-clause-counters
post_all-requires-clause-counters c =
    counters_all c.args.kinds.now c.args.nic.now c.alloc_index.new.nic c.make_counter.new.nic c.make_counter-2.new.nic c.args.kept.now
    c.make_counter.new.kept c.make_counter-2.new.kept c.requires.none c.requires.all c.in_ok-alloc_index.ensures
    c.in_ok-make_counter.ensures c.in_ok-make_counter-2.ensures c.make_steps.new.nic c.make_steps.new.kept
    c.in_ok-make_steps.ensures c.args.rank c.make_own_words.new.nic c.make_own_words.new.kept c.in_ok-make_own_words.ensures

pub post_all-requires-clause-descriptors : goal.post_all-requires-clause-descriptors
post_all-requires-clause-descriptors c =
    descriptors_all c.args.kinds.now c.args.nic.now c.alloc_index.new.nic c.make_counter.new.nic c.make_counter-2.new.nic
    c.args.kept.now c.make_counter.new.kept c.make_counter-2.new.kept c.requires.none c.requires.all c.in_ok-alloc_index.ensures
    c.in_ok-make_counter.ensures c.in_ok-make_counter-2.ensures c.make_steps.new.nic c.make_steps.new.kept
    c.in_ok-make_steps.ensures c.args.rank c.make_own_words.new.nic c.make_own_words.new.kept c.in_ok-make_own_words.ensures

pub returns : goal.returns
returns c =
    let first = first_made c.args.kinds.now c.args.nic.now c.alloc_index.new.nic c.make_counter.new.nic c.make_counter-2.new.nic
    c.args.kept.now c.make_counter.new.kept c.make_counter-2.new.kept c.requires.none c.requires.all c.in_ok-alloc_index.ensures in
    let go = go_made c.args.kinds.now c.args.nic.now c.alloc_index.new.nic c.make_counter.new.nic c.make_counter-2.new.nic
    c.args.kept.now c.make_counter.new.kept c.make_counter-2.new.kept c.requires.none c.requires.all c.in_ok-alloc_index.ensures
    c.in_ok-make_counter.ensures in
    let done = done_made c.args.kinds.now c.args.nic.now c.alloc_index.new.nic c.make_counter.new.nic c.make_counter-2.new.nic
    c.args.kept.now c.make_counter.new.kept c.make_counter-2.new.kept c.requires.none c.requires.all c.in_ok-alloc_index.ensures
    c.in_ok-make_counter.ensures c.in_ok-make_counter-2.ensures in
    all_made c.args.kinds.now c.args.rank c.args.nic.now c.alloc_index.new.nic c.make_counter.new.nic c.make_counter-2.new.nic
    c.make_steps.new.nic c.make_own_words.new.nic c.post_all.new.nic c.args.kept.now c.make_counter.new.kept c.make_counter-2.new.kept
    c.make_steps.new.kept c.make_own_words.new.kept first go done c.in_ok-make_steps.ensures c.in_ok-make_own_words.ensures
    c.in_ok-post_all.ensures
