-- Words of the steps by which a message is answered.
use Rattle.std.specs.Prelude.{◌≡◌, List, Option, Result, Ok, Err}
use Rattle.std.specs.Io.KnownBytes.{IsAtEnd}
use Rattle.classfile.specs.declared.profile.Profile.{Profile}
use Rattle.hierarchy.specs.Class.{ClassFact}
use Rattle.serving.specs.Messages.{ReplyFact, reply_view}
use Rattle.serving.specs.KnownClasses.{KnownClass, AreKnown, summaries}
use Rattle.serving.specs.declared.step.Outcome.{Outcome}

-- the summaries are those of the known classes
abbrev pub Knows : Profile → List KnownClass → List ClassFact → Type 0
Knows profile ks facts = AreKnown profile ks × (facts ≡ summaries ks)

-- a reply, and the classes that are known then
abbrev pub Leads : Profile → (ReplyFact → List KnownClass → Type 0) → Outcome → Type 0
Leads profile IsStep outcome = (new : List KnownClass) × IsStep (reply_view outcome.reply) new
    × Knows profile new outcome.known
