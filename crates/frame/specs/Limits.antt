-- The numbers that bound a frame.
use Rattle.std.specs.Prelude.{ℕ, ◌*◌}

-- the version that is spoken
abbrev pub version : ℕ
version = 1

-- the bytes before an argument, and so the shortest frame
abbrev pub head_size : ℕ
head_size = 6

abbrev pub longest_frame : ℕ
longest_frame = 40

abbrev pub last_dialogue : ℕ
last_dialogue = 63

abbrev pub last_invoke : ℕ
last_invoke = 127

abbrev pub last_cause : ℕ
last_cause = 127

-- the most ticks that a timer is set to
abbrev pub most_ticks : ℕ
most_ticks = 6000

-- the most items in one frame, and the bytes of each
abbrev pub most_items : ℕ
most_items = 17

abbrev pub item_size : ℕ
item_size = 2

-- and so the longest argument
abbrev pub longest_argument : ℕ
longest_argument = most_items * item_size
