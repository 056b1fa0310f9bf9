mod CursorLemmas
mod ShellLemmas
