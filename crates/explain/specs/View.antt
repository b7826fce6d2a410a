-- What a story of the program is, as definitions see it.
use Rattle.explain.specs.declared.watched.Story.{Story}
use Rattle.explain.specs.Stories.{Told}

-- what is told of it, whatever it keeps to tell more
abbrev pub told_of : {A S : Type 0} → Story A S → Told S
told_of story =
    record {
      acts = story.acts;
      detail = story.detail;
      is_lost = story.is_lost;
      sink = story.sink;
    }
