-- Words of the code's own steps: nothing that a reader must believe rests on them.
-- The effects of instructions, as the program keeps them.
use Rattle.std.specs.Prelude.{ℕ, List, [], ◌∷◌, map}
use Rattle.names.specs.Types.{type_of}
use Rattle.names.specs.ReferenceTypes.{class_type}
use Rattle.names.specs.StandardNames.{throwable_name}
use Rattle.insn.specs.Kinds.{kind_units}
use Rattle.insn.specs.Operators.{stack_forms}
use Rattle.insn.specs.Branching.{branches_view}
use Rattle.machine.specs.declared.effect.Demand.{Demand as RawDemand}
use Rattle.machine.specs.declared.effect.Demand.TheVariants as raw
use Rattle.machine.specs.declared.effect.Reply.{Reply as RawReply}
use Rattle.machine.specs.declared.effect.Reply.TheVariants as replies
use Rattle.machine.specs.declared.effect.Effect.{Effect as RawEffect}
use Rattle.machine.specs.declared.effect.Effect.TheVariants.{Operates, Reads, Writes, Increments, Moves, TakesElement, Passes, Creates, MakesArray, Initializes, CallsSpecial, Leaves, Throws, Ends, Stuck}
use Rattle.machine.specs.Effects.{Demand, of_kind, of_type, some_reference, some_array, some_array_for, own_or_of, Reply, no_reply, gives_number, gives_null, gives_answer, Effect, operates, reads, writes, increments, moves, takes_element, passes, creates, makes_array, initializes, calls_special, leaves, throws, ends, stuck}
use Rattle.machine.specs.Views.{run_type_view}

abbrev pub demand_view : RawDemand → Demand
demand_view (raw.Number kind) = of_kind kind
demand_view (raw.Type type) = of_type (run_type_view type)
demand_view raw.Reference = some_reference
demand_view raw.Array = some_array
demand_view (raw.ArrayFor p) = some_array_for p
demand_view (raw.OwnOr class) = own_or_of class.now

abbrev pub demands_view : List RawDemand → List Demand
demands_view demands = map demand_view demands

-- how many local variables what is needed takes
abbrev pub demand_units : RawDemand → ℕ
demand_units (raw.Number kind) = kind_units kind
demand_units _ = 1

abbrev pub reply_view : RawReply → Reply
reply_view replies.Nothing = no_reply
reply_view (replies.Number kind) = gives_number kind
reply_view replies.Null = gives_null
reply_view (replies.Answer type) = gives_answer (type_of type)

abbrev pub effect_view : RawEffect → Effect
effect_view (Operates o branches falls) =
    operates (demands_view o.demands.items) o.live (reply_view o.reply) (branches_view branches) falls
effect_view (Reads demand local) = reads (demand_view demand) local
effect_view (Writes demand local) = writes (demand_view demand) local (demand_units demand)
effect_view (Increments local) = increments local
effect_view (Moves operator) = moves (stack_forms operator)
effect_view TakesElement = takes_element
effect_view (Passes type) = passes (run_type_view type)
effect_view (Creates class) = creates class.now
effect_view (MakesArray demands made) = makes_array (demands_view demands.items) (run_type_view made)
effect_view (Initializes class demands) = initializes class.now (demands_view demands.items)
effect_view (CallsSpecial class o) =
    calls_special (run_type_view class) (demands_view o.demands.items) o.live (reply_view o.reply)
effect_view (Leaves demand) = leaves (demand_view demand ∷ [])
effect_view Throws = throws (of_type (class_type throwable_name))
effect_view Ends = ends
effect_view Stuck = stuck
