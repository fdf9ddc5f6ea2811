-- A plan as a graph, in the language of Graphviz's `dot`.
use Rattle.std.specs.Prelude.{ℕ, List, Option, Some, None, [], ◌∷◌, ◌++◌, codes, length}
use Rattle.std.specs.List.{flat_map}
use Rattle.std.specs.Fmt.{decimal}
use Rattle.ptl_types.specs.declared.elements.AtomicOp.{AtomicOp}
use Rattle.number_lists.specs.Numbers.{from_to}
use Rattle.coll_text.specs.Text.{line}
use Rattle.coll_lang.specs.Words.{op_word, type_word}
use Rattle.plan_core.specs.declared.Cell.{Cell}
use Rattle.plan_core.specs.declared.Link.{Link}
use Rattle.plan_core.specs.declared.LinkKind.{LinkKind}
use Rattle.plan_core.specs.declared.LinkKind.TheVariants.{Put, Atomic, Bump}
use Rattle.plan_core.specs.Plan.{Plan, cell, link}
use Rattle.plan_words.specs.declared.graph.TheConstants.{HEAD, TAIL}

-- what a cell combines by, or `bytes`
abbrev pub op_label : Option AtomicOp → List ℕ
op_label None = codes "bytes"
op_label (Some op) = op_word op

-- an atomic is drawn bold, a bump dashed
abbrev pub edge_style : LinkKind → List ℕ
edge_style Put = codes "put\" ]"
edge_style Atomic = codes "atomic\" style = bold ]"
edge_style Bump = codes "bump\" style = dashed ]"

-- a cell is a node of its rank's column: its rank, its number, its needs, its length in bytes, and what it combines by
abbrev pub node_line : ℕ → Cell → List ℕ
node_line n c =
    line (decimal n ∷ codes "[ group =" ∷ decimal c.rank ∷ codes "label = \"rank" ∷ decimal c.rank ∷ codes "cell" ∷ decimal n
    ∷ codes "needs" ∷ decimal c.needs ∷ codes "\\n" ∷ decimal c.length ∷ op_label c.op ∷ type_word c.ty ∷ codes "\" ]" ∷ [])

-- a link is an edge
abbrev pub edge_line : ℕ → Link → List ℕ
edge_line n l =
    line (decimal l.source ∷ codes "->" ∷ decimal l.target ∷ codes "[ label = \"link" ∷ decimal n ∷ edge_style l.kind ∷ [])

abbrev pub nodes : Plan → List ℕ
nodes p = flat_map (λ c. node_line c (cell p c)) (from_to 0 (length p.cells))

abbrev pub edges : Plan → List ℕ
edges p = flat_map (λ l. edge_line l (link p l)) (from_to 0 (length p.links))

abbrev pub graph_text : Plan → List ℕ
graph_text p = HEAD.now ++ (nodes p ++ (edges p ++ TAIL.now))
