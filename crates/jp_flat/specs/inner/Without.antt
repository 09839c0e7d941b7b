-- A working file, which nobody has to believe: members without those of a name.
use Rattle.std.specs.Prelude.{if◌then◌else◌}
use Rattle.jp_doc.specs.Json.{Text, text_eq, Members, no_members, add_member}

abbrev pub without : Text → Members → Members
without k no_members = no_members
without k (add_member l w ms) = if text_eq k l then without k ms else add_member l w (without k ms)
