-- What a script determines of a history, whoever made its entries.
use Rattle.std.specs.Prelude.{ℕ, List, ◌≡◌}
use Rattle.pr_flow.specs.Sound.{AreSoundEvents}
use Rattle.pr_story.specs.History.{NodeEntry, Plan}
use Rattle.pr_story.specs.Lawful.{Valid}
use Rattle.pr_story.specs.Lines.{without_callers}
use Rattle.pr_story.specs.Scripts.{JobAfterJob, Line, IsOfScript}

-- two valid histories of one script by one thread, of which no flow went down as its wire failed or ended, are the
-- same but for the callers' numbers
abbrev pub SoundHistoriesAgree : Type 0
SoundHistoriesAgree =
    (plan : Plan) (streams : List ℕ) (lines : List Line) (h g : List NodeEntry) → Valid plan h → Valid plan g
    → AreSoundEvents h → AreSoundEvents g → IsOfScript JobAfterJob streams lines h → IsOfScript JobAfterJob streams lines g
    → without_callers h ≡ without_callers g
