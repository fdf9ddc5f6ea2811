-- How a buffer is kept: in one of three forms, with the place that each rank has among the members.
use Rattle.std.specs.Prelude.{ℕ, List, [], Option, get_or, map}
use Rattle.coll_shape.specs.Collectives.{only_at}
use Rattle.coll_shape.specs.Meaning.{at_place}
use Rattle.coll_meaning.specs.declared.lists.Form.{Form}
use Rattle.coll_meaning.specs.declared.lists.Form.TheVariants.{Same, AtRoot, Each}

-- the list at place i
abbrev pub form_list : Form → ℕ → List ℕ
form_list (Same list) i = list
form_list (AtRoot root list) i = only_at root i list
form_list (Each lists) i = get_or lists.items i []

-- the list at each rank, whose place is told
abbrev pub rank_lists : Form → List (Option ℕ) → List (List ℕ)
rank_lists form places = map (at_place (form_list form) []) places
