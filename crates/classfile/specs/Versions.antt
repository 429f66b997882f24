-- The versions that a class file may have (JVMS 4.1, table 4.1-A).
use Rattle.std.specs.Prelude.{ℕ, ◌+◌, Bool, true, false, ◌&&◌, ◌||◌, nat_le, nat_eq}
use Rattle.classfile.specs.declared.profile.Profile.{Profile}
use Rattle.classfile.specs.declared.profile.Profile.TheVariants as profiles
use Rattle.classfile.specs.declared.versions.Versions.{Versions}
use Rattle.classfile.specs.declared.versions.Versions.TheVariants.{Java7To17, Release}

-- major versions between these, to 55 with any minor version, and from 56 on with 0
abbrev pub is_between : (least greatest minor major : ℕ) → Bool
is_between least greatest minor major =
    nat_le least major && nat_le major greatest && (nat_le major 55 || nat_eq minor 0)

-- Java SE N reads major versions up to N + 44
abbrev pub is_version : Versions → ℕ → ℕ → Bool
is_version Java7To17 minor major = is_between 51 61 minor major
is_version (Release least number) minor major = is_between least (number + 44) minor major

-- all rules of form are judged that a release has
abbrev pub is_release : Versions → Bool
is_release Java7To17 = false
is_release (Release least number) = true

-- a class is judged by its stack maps, which it has from version 50 on
abbrev pub judged_versions : Profile → Versions
judged_versions profiles.Default = Java7To17
judged_versions profiles.Dynamic = Java7To17
judged_versions (profiles.Release number) = Release 50 number

-- one that is read, and not judged, as a class that others refer to, may have any version that the release reads
abbrev pub known_versions : Profile → Versions
known_versions profiles.Default = Java7To17
known_versions profiles.Dynamic = Java7To17
known_versions (profiles.Release number) = Release 45 number
