-- What a shape says, apart from how it is kept.
use Rattle.std.specs.Prelude.{ℕ, ◌*◌, List, Option, Some, None, [], Bool, get_or}
use Rattle.ptl_types.specs.declared.elements.ElemType.TheVariants.{U8}
use Rattle.ptl_types.specs.Operations.{bytes_of}
use Rattle.number_lists.specs.Numbers.{from_to}
use Rattle.coll_shape.specs.declared.types.Version.{Version}
use Rattle.coll_shape.specs.declared.types.Buffer.{Buffer}
use Rattle.coll_shape.specs.declared.types.Group.{Group}
use Rattle.coll_shape.specs.declared.types.CollStep.{CollStep}
use Rattle.coll_shape.specs.declared.types.CollStep.TheVariants.{Barrier}

-- a description without the values of its inputs
pub record Outline : Type 0 where
  pub version : Version
  pub ranks : ℕ
  -- whether completion also waits for every acknowledgement
  pub remote : Bool
  -- the groups that are named
  pub groups : List Group
  -- the inputs first
  pub buffers : List Buffer
  -- how many of the buffers are inputs
  pub inputs : ℕ
  pub steps : List CollStep
  -- for each step the number of its group, if it names one
  pub on : List (Option ℕ)
  -- the numbers of the buffers that are printed
  pub prints : List ℕ

abbrev pub no_buffer : Buffer
no_buffer = record { name = []; ty = U8; spread = record { length = 0; holders = [] } }

abbrev pub buffer_at : Outline → ℕ → Buffer
buffer_at o b = get_or o.buffers b no_buffer

-- a list of the buffer, in bytes
abbrev pub list_bytes : Buffer → ℕ
list_bytes x = x.spread.length * bytes_of x.ty

abbrev pub step_at : Outline → ℕ → CollStep
step_at o k = get_or o.steps k Barrier

abbrev pub no_group : Group
no_group = record { name = []; members = [] }

-- the members of a named group; without a name, everyone
abbrev pub members_of : List ℕ → List Group → Option ℕ → List ℕ
members_of everyone groups None = everyone
members_of everyone groups (Some i) = (get_or groups i no_group).members

-- the members of step k
abbrev pub group_at : Outline → ℕ → List ℕ
group_at o k = members_of (from_to 0 o.ranks) o.groups (get_or o.on k None)

-- the buffer that is read; a step without one reads none
abbrev pub read_buffer : Outline → Option ℕ → Buffer
read_buffer o None = no_buffer
read_buffer o (Some a) = buffer_at o a
