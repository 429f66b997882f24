-- Trees of nodes: what a slot holds below a node, which nodes are shared, and which were said to fit.
use Rattle.std.specs.Prelude.{◌≡◌, ◌≢◌, ℕ, zero, suc, ◌+◌, ◌*◌, ◌≤◌, ◌<◌, ◌%◌, ◌/◌, ◌^◌, true, false, List, [], ◌∷◌, ◌++◌, length, slice_index, slice_index_or, Option, Some, None, ◌⊎◌}
use Rattle.blocks.specs.Rows.{is_decided}
use Rattle.blocks.specs.private.Blocks.{place_in}
use Rattle.blocks.specs.declared.node.Node.{Node}

abbrev pub no_node : Node
no_node = record { numbers = []; level = 0; seen = None }

abbrev pub node_at : List Node → ℕ → Node
node_at ns id = slice_index_or ns id no_node

abbrev pub level_of : List Node → ℕ → ℕ
level_of ns id = (node_at ns id).level

abbrev pub below : List Node → ℕ → ℕ → ℕ
below ns id place = slice_index (node_at ns id).numbers place

-- how many slots there are below a node of a level
abbrev pub width : ℕ → ℕ
width level = 2 ^ (4 + 4 * level)

-- the block in which a slot stands, below a node of a level
abbrev pub block_at : List Node → ℕ → ℕ → ℕ → ℕ
block_at ns zero id slot = id
block_at ns (suc level) id slot = block_at ns level (below ns id (place_in slot (suc level))) slot

-- the number of a slot below a node of a level
abbrev pub number_at : List Node → ℕ → ℕ → ℕ → ℕ
number_at ns zero id slot = below ns id (slot % 16)
number_at ns (suc level) id slot = number_at ns level (below ns id (place_in slot (suc level))) slot

-- nodes that stand at levels: below one of level k + 1 are 16 of level k
pub record IsForest (ns : List Node) : Type 0 where
  pub few : length ns < 2 ^ 32
  pub wide : (i : ℕ) → i < length ns → length (node_at ns i).numbers ≡ 16
  pub low : (i : ℕ) → i < length ns → level_of ns i < 4
  pub inner : (i j level : ℕ) → i < length ns → j < 16 → level_of ns i ≡ suc level
      → (below ns i j < length ns) × (level_of ns (below ns i j) ≡ level)

-- nodes of which those from `own` on belong to the running row alone
pub record IsTree (ns : List Node) (own : ℕ) : Type 0 where
  pub forest : IsForest ns
  pub within : own ≤ length ns
  -- below a shared node are shared nodes
  pub shared : (i j : ℕ) → i < own → j < 16 → 0 < level_of ns i → below ns i j < own
  -- an own node stands at one place
  pub once : (i j p q : ℕ) → i < length ns → p < length ns → j < 16 → q < 16 → 0 < level_of ns i → 0 < level_of ns p
      → own ≤ below ns i j → below ns i j ≡ below ns p q → (i ≡ p) × (j ≡ q)
  -- only shared nodes are said to fit shared nodes, of their level
  pub seen : (i r : ℕ) → i < length ns → (node_at ns i).seen ≡ Some r → (i < own) × (r < own)
      × (level_of ns r ≡ level_of ns i)

-- no node has this one below it
abbrev pub IsLoose : List Node → ℕ → Type 0
IsLoose ns id = (p q : ℕ) → p < length ns → q < 16 → 0 < level_of ns p → below ns p q ≢ id

-- a node was put after the others: what another holds, and nothing is known of it
pub record IsCopy (old new : List Node) (id copy : ℕ) : Type 0 where
  pub last : copy ≡ length old
  pub pushed : new ≡ old ++ record (node_at old id) { seen = None } ∷ []
  pub few : length new < 2 ^ 32

-- each node holds what it held, by its slots; those above a level are as they were
pub record Keeps (old new : List Node) (level : ℕ) : Type 0 where
  pub more : length old ≤ length new
  pub levels : (i : ℕ) → i < length old → level_of new i ≡ level_of old i
  pub seen : (i : ℕ) → i < length old → (node_at new i).seen ≡ (node_at old i).seen
  pub numbers : (i slot : ℕ) → i < length old
      → number_at new (level_of old i) i slot ≡ number_at old (level_of old i) i slot
  pub above : (i : ℕ) → i < length old → level < level_of old i → node_at new i ≡ node_at old i
  pub news : (i : ℕ) → length old ≤ i → i < length new → (node_at new i).seen ≡ None

-- a node that the running row has alone stands at a place below another
pub record IsBelow (ns : List Node) (own id place node : ℕ) : Type 0 where
  pub here : below ns id place ≡ node
  pub own_node : own ≤ node

-- ---- comparing

-- a node was said to fit another, and these are their numbers of a slot
pub record IsKnown (ns : List Node) (number wanted : ℕ) : Type 0 where
  pub node : ℕ
  pub fit : ℕ
  pub slot : ℕ
  pub inside : node < length ns
  pub seen : (node_at ns node).seen ≡ Some fit
  pub fits : number ≡ number_at ns (level_of ns node) fit slot
  pub asks : wanted ≡ number_at ns (level_of ns node) node slot

-- the numbers of a slot below two nodes of a level are decided, or known to fit
abbrev pub IsSettledBelow : List Node → ℕ → ℕ → ℕ → ℕ → Type 0
IsSettledBelow ns level id wanted slot =
    (is_decided (number_at ns level id slot) (number_at ns level wanted slot) ≡ true)
    ⊎ IsKnown ns (number_at ns level id slot) (number_at ns level wanted slot)

-- all slots from one up to an end are settled, and the end is another unless the slot itself is not decided
pub record IsSettledUpTo (ns : List Node) (level id wanted slot end : ℕ) : Type 0 where
  pub ahead : slot ≤ end
  pub within : end ≤ (slot / width level + 1) * width level
  pub settled : (k : ℕ) → slot ≤ k → k < end → IsSettledBelow ns level id wanted k
  pub stop : end ≡ slot → is_decided (number_at ns level id slot) (number_at ns level wanted slot) ≡ false

-- the first slot from one up to an end that is not decided, and not known either
abbrev pub IsFirstUndecidedBelow : List Node → ℕ → ℕ → ℕ → ℕ → ℕ → Option ℕ → Type 0
IsFirstUndecidedBelow ns level id wanted from to None = (k : ℕ) → from ≤ k → k < to
    → IsSettledBelow ns level id wanted k
IsFirstUndecidedBelow ns level id wanted from to (Some slot) = (from ≤ slot) × (slot < to)
    × (is_decided (number_at ns level id slot) (number_at ns level wanted slot) ≡ false)
    × ((k : ℕ) → from ≤ k → k < slot → IsSettledBelow ns level id wanted k)

-- the numbers of a slot below two nodes of a level are equal
abbrev pub IsEqualBelow : List Node → ℕ → ℕ → ℕ → ℕ → Type 0
IsEqualBelow ns level id other slot = number_at ns level id slot ≡ number_at ns level other slot

-- the numbers of all slots from one up to an end are equal, and the end is another unless they differ in the slot
-- itself
pub record IsEqualUpTo (ns : List Node) (level id other slot end : ℕ) : Type 0 where
  pub ahead : slot ≤ end
  pub within : end ≤ (slot / width level + 1) * width level
  pub equal : (k : ℕ) → slot ≤ k → k < end → IsEqualBelow ns level id other k
  pub stop : end ≡ slot → number_at ns level id slot ≢ number_at ns level other slot

-- the first slot from one up to an end in which the numbers differ
abbrev pub IsFirstUnequalBelow : List Node → ℕ → ℕ → ℕ → ℕ → ℕ → Option ℕ → Type 0
IsFirstUnequalBelow ns level id other from to None = (k : ℕ) → from ≤ k → k < to → IsEqualBelow ns level id other k
IsFirstUnequalBelow ns level id other from to (Some slot) = (from ≤ slot) × (slot < to)
    × (number_at ns level id slot ≢ number_at ns level other slot)
    × ((k : ℕ) → from ≤ k → k < slot → IsEqualBelow ns level id other k)

-- ---- what is said to fit

-- one node is said to fit another, and their numbers stand slot by slot below two nodes of a level
pub record IsPart (ns ms : List Node) (level id wanted node : ℕ) : Type 0 where
  pub fit : ℕ
  pub inside : fit < length ns
  pub alike : level_of ns fit ≡ level_of ns node
  pub seen : (node_at ms node).seen ≡ Some fit
  pub parts : (slot : ℕ) → (k : ℕ) × (k < width level)
      × (number_at ns (level_of ns node) fit slot ≡ number_at ns level id k)
      × (number_at ns (level_of ns node) node slot ≡ number_at ns level wanted k)

-- nothing changed but that nodes are said to fit others, as one node is to fit another
pub record NotesOnly (ns ms : List Node) (level id wanted : ℕ) : Type 0 where
  pub long : length ms ≡ length ns
  pub numbers : (i : ℕ) → (node_at ms i).numbers ≡ (node_at ns i).numbers
  pub levels : (i : ℕ) → level_of ms i ≡ level_of ns i
  pub seen : (i : ℕ) → i < length ns → ((node_at ms i).seen ≡ (node_at ns i).seen) ⊎ IsPart ns ms level id wanted i

-- a node holds what another does
pub record IsCopyOf (ns : List Node) (copy wanted : ℕ) : Type 0 where
  pub inside : copy < length ns
  pub alike : level_of ns copy ≡ level_of ns wanted
  pub same : (k : ℕ) → k < 16 → below ns copy k ≡ below ns wanted k

-- a node was said to fit a copy of another
pub record IsRemembered (ns : List Node) (id wanted : ℕ) : Type 0 where
  pub copy : ℕ
  pub is : IsCopyOf ns copy wanted
  pub seen : (node_at ns copy).seen ≡ Some id

-- a node is another, or was said to fit it or a copy of it
abbrev pub IsKnownToFit : List Node → ℕ → ℕ → Type 0
IsKnownToFit ns id wanted = (id ≡ wanted) ⊎ ((node_at ns wanted).seen ≡ Some id) ⊎ IsRemembered ns id wanted

-- and it is known that one was said to fit the other
pub record IsNoted (ns ms : List Node) (level id wanted : ℕ) : Type 0 where
  pub only : NotesOnly ns ms level id wanted
  pub done : IsKnownToFit ms id wanted

-- ---- what is written

-- a node that the running row has alone, and that holds what another does
pub record IsOwned (ns ms : List Node) (own id node : ℕ) : Type 0 where
  pub tree : IsTree ms own
  pub kept : (level : ℕ) → Keeps ns ms level
  pub inside : node < length ms
  pub alone : own ≤ node
  pub alike : level_of ms node ≡ level_of ns id
  pub numbers : (slot : ℕ) → number_at ms (level_of ns id) node slot ≡ number_at ns (level_of ns id) id slot

-- shared nodes hold what they held, and fit what they fitted
pub record SharesSame (ns ms : List Node) (own : ℕ) : Type 0 where
  pub levels : (i : ℕ) → i < own → level_of ms i ≡ level_of ns i
  pub seen : (i : ℕ) → i < own → (node_at ms i).seen ≡ (node_at ns i).seen
  pub numbers : (i slot : ℕ) → i < own → number_at ms (level_of ns i) i slot ≡ number_at ns (level_of ns i) i slot

-- the node `now` holds what `id` held but for one slot
pub record IsPut (ns ms : List Node) (own id slot number now : ℕ) : Type 0 where
  pub inside : now < length ms
  pub alike : level_of ms now ≡ level_of ns id
  pub shared : SharesSame ns ms own
  pub here : number_at ms (level_of ns id) now slot ≡ number
  pub others : (k : ℕ) → k < width (level_of ns id) → k ≢ slot
      → number_at ms (level_of ns id) now k ≡ number_at ns (level_of ns id) id k
